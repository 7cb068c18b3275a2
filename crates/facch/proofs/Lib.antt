-- The laws of words, of their rotation in the search, and of the answer.
pub mod WordBits
pub mod Biting
pub mod Turned
pub mod Settling
pub mod Meaning
