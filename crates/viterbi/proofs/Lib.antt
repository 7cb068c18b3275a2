-- The laws.
pub mod Branches
pub mod Weights
pub mod Searched
