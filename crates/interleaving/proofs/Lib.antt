-- The laws of slots.
pub mod RoundTrip
pub mod Orders
pub mod Parts
