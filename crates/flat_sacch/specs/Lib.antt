-- What the flat functions over `sacch` answer.
pub mod Flat
