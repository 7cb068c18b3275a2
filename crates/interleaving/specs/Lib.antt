-- Slots that carry parts of successive frames.
pub mod Slots
pub mod Orders
pub mod Parts
pub mod Calls
