-- VSELP speech frames: ranges of places (Ranges), the inputs (Inputs), the places of class two and of the protected bits (Classes), the frame (Frames), and what the calls do (Calls).
pub mod Ranges
pub mod Inputs
pub mod Classes
pub mod Frames
pub mod Calls
