-- The diagonal interleaver of SACCH, and the deinterleaver's calls.
pub mod Diagonal
pub mod Deinterleaver
