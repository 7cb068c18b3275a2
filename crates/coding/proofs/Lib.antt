-- The laws of the codes and of their registers.
pub mod Steps
pub mod Mirror
pub mod Coded
pub mod Encoding
pub mod Lines
pub mod Unique
