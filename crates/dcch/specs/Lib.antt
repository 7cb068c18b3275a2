-- DCCH blocks: the checksum as it is sent (Crc), encoding, decoding of received bits (Blocks), and of reliabilities (SoftBlocks).
pub mod Crc
pub mod Blocks
pub mod SoftBlocks
