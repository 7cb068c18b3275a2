-- The laws of words as numbers (Words), and of one more byte (Pushed).
pub mod Pushed
pub mod Words
