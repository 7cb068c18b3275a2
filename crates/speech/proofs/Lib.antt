-- The laws of ranges, inputs and places, and of the decoder.
pub mod Copying
pub mod InputBits
pub mod ClassPlaces
pub mod Statuses
pub mod Meaning
pub mod Settling
