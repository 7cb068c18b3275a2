-- The laws of SACCH's encoder, decoder and receiver together: a word's round trip, its last pair, its corrected bits, and the listening rule.
pub mod RoundTrip
pub mod LastPair
pub mod Trials
pub mod Fitting
pub mod ReceiverRun
pub mod Pushes
pub mod Corrected
pub mod EncoderRun
pub mod WordRows
pub mod Listening
pub mod Planning
pub mod Premise
pub mod Schedule
