-- The laws of characters and shapes, of long and blank lines, and of numbers as text.
pub mod Reading
pub mod LineKinds
pub mod Stored
pub mod Appended
pub mod Digits
