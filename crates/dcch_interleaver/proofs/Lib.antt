-- The laws.
pub mod Wiring
pub mod Interleaved
pub mod Summed
pub mod Disagreements
pub mod Passing
