-- The laws.
pub mod Gaps
pub mod MaskSteps
pub mod Received
pub mod Branches
pub mod Kept
pub mod OneWord
