-- The laws of stored rows and of a push.
pub mod Unrolled
pub mod Decoded
pub mod Fitting
pub mod Pushing
