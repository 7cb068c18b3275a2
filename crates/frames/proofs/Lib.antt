-- The laws.
pub mod Turning
