-- The laws.
pub mod RoundTrip
