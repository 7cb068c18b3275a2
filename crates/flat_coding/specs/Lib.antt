-- What the flat functions answer: calls that write bits (Calls), steps and checksums (Flat), the bare searches (FlatSearch).
pub mod Calls
pub mod Flat
pub mod FlatSearch
