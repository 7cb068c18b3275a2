-- Checksums: what they are (Checksums), and the register that computes them (Feedback).
pub mod Checksums
pub mod Feedback
