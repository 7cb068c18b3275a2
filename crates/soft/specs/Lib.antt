-- Reliabilities and what a coded bit costs (Reliability), the trellis over doubles (Branch) and its steps (Step), the Rust's loops (RustOrder), and what the search finds (Soft).
pub mod Reliability
pub mod Branch
pub mod Step
pub mod RustOrder
pub mod Soft
