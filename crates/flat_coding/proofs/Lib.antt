-- The laws of flat answers.
pub mod Steps
pub mod Searches
