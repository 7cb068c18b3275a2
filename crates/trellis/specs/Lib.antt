-- The search for the nearest word: what it finds (Search), over which words (Words, Numbering), how (Trellis), and the nearest words as a list (Nearest).
pub mod Search
pub mod Numbering
pub mod Words
pub mod Trellis
pub mod Nearest
