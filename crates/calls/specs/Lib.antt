pub mod Bytes
pub mod Numerals
pub mod Refused
pub mod Rooms
pub mod Tally
