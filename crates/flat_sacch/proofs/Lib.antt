-- The laws.
pub mod Flattened
