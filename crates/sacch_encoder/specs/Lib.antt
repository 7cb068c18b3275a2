-- SACCH words, the rows of their coded bits, and the encoder's calls.
pub mod Words
pub mod Encoder
