-- The laws.
pub mod VselpRoundTrip
pub mod AcelpRoundTrip
pub mod VselpPlaces
