-- The laws of ACELP CC1's frames.
pub mod Placing
pub mod Parts
pub mod Sending
pub mod Ordering
pub mod Inputs
pub mod Framing
pub mod Restoring
pub mod Meaning
pub mod Settling
pub mod OwnInputs
