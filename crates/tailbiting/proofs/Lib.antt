-- The laws of the rows, and of the starts that are tried one after the other.
pub mod Branches
pub mod Joined
pub mod Tries
