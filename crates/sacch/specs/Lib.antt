-- What holds of SACCH's encoder, decoder and receiver together.
pub mod Calls
pub mod Listening
pub mod Premise
pub mod Schedule
