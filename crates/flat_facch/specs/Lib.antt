-- What the flat functions over `facch` answer.
pub mod Words
