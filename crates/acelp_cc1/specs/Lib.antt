-- ACELP CC1 speech frames: their channel bits (Frames), the calls (Calls), and two lists by turns (Turns).
pub mod Frames
pub mod Calls
pub mod Turns
