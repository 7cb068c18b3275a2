-- The laws.
pub mod Parts
pub mod Made
pub mod Writing
