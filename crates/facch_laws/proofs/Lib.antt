-- The laws.
pub mod Taps
pub mod Shown
pub mod Halves
pub mod Determined
pub mod SameCalls
pub mod RoundTrip
pub mod HalfTrip
