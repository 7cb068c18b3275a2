-- Bits and numbers as bits, the refusals of document 01, what a call tests first, and received bits of which some were not observed: the definitions.
pub mod Bits
pub mod Places
pub mod Numbers
pub mod Refusals
pub mod Arguments
pub mod Observed
pub mod Calls
