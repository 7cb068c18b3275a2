-- The laws.
pub mod NewestFive
pub mod Meaning
pub mod Settling
pub mod Weighing
