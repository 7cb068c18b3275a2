-- The laws of the searches' parts, in the order in which they run.
pub mod Selecting
pub mod Butterflies
pub mod Running
pub mod ByPlace
pub mod Distances
pub mod Survivors
pub mod Tracing
pub mod Ends
pub mod Finding
pub mod Deciding
