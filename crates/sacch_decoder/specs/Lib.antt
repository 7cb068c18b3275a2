-- Decoding of SACCH words.
pub mod Decoding
