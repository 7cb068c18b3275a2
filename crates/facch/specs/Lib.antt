-- FACCH words and their coded bits (Words), the nearest word (Search), and what the decoders answer (Decoding).
pub mod Words
pub mod Search
pub mod Decoding
