-- The laws that every crate cites.
pub mod Tested
pub mod Listed
pub mod Permuted
pub mod Filled
pub mod Scattered
pub mod PlacesMoved
pub mod Passing
pub mod LentPart
pub mod Ring
pub mod Below
pub mod Binary
pub mod Erased
pub mod Packed
pub mod Chunks
pub mod Tally
pub mod Refusing
pub mod Writing
