-- The laws of division, of the register that divides and of the two checksums.
pub mod Division
pub mod Shifting
pub mod Fours
pub mod Runs
pub mod Answers
pub mod Tested
