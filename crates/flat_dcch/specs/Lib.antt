-- What the flat functions over `dcch` answer.
pub mod Blocks
