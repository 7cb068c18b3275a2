-- The theory of the search, and of the list of nearest words.
pub mod Registers
pub mod Optimal
pub mod Order
pub mod Searching
pub mod PathWord
pub mod Distance
pub mod FixedStart
pub mod FreeStart
pub mod Renumber
pub mod Embed
pub mod Doubles
pub mod AllWords
pub mod Lightest
pub mod Members
pub mod Decided
