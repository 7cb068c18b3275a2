-- What a receiver has stored (Stored), and its calls (Receiver).
pub mod Stored
pub mod Receiver
