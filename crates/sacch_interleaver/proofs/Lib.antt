-- The laws of the diagonal interleaver.
pub mod Rings
pub mod Diagonal
pub mod Weighing
pub mod LaidOut
pub mod Deinterleaving
