-- Text by characters and lines (Lines), what a line is before its form is read (LineKinds), numbers as text (Numerals), and what is stored of it in a buffer (Writing) with the law of that (Laws).
pub mod Lines
pub mod LineKinds
pub mod Writing
pub mod Laws
pub mod Numerals
