-- The laws of the checksum, of encoding and decoding, hard and soft, the round trip, what settles an answer, and what an accepted word is on the air.
pub mod Checksums
pub mod Inputs
pub mod Encodings
pub mod Finishing
pub mod Decodings
pub mod SoftCells
pub mod SoftDecodings
pub mod RoundTrip
pub mod OneAnswer
pub mod Sent
