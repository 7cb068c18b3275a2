-- The laws of SACCH words, their rows and the encoder.
pub mod Rows
pub mod Coding
pub mod Fits
pub mod Slots
pub mod Sending
pub mod WordBits
