-- The laws.
pub mod Columns
pub mod Observing
pub mod Interleaved
