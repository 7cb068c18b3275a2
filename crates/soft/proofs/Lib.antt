-- The laws of reliabilities, of a step and of the search over doubles.
pub mod Tests
pub mod Signs
pub mod Costs
pub mod Butterflies
pub mod Tracing
pub mod ScanOrder
pub mod RustOrder
pub mod Running
pub mod Termination
pub mod Exactness
pub mod Samples
