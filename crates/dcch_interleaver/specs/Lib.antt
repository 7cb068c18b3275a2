-- The formats of a DCCH block and the order in which its cells are sent.
pub mod Formats
pub mod Wire
