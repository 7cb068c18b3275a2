-- The laws of commands, of masked bits and of the lines that answer.
pub mod Forms
pub mod Masking
