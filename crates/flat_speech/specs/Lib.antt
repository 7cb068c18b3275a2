-- What the flat functions over speech frames answer.
pub mod Frames
