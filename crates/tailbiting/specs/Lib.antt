-- The tail-biting search of the FACCH code: what it finds (TailBiting), the rows of branch metrics that it searches with (Rows), and the order in which it tries the starts (Starts).
pub mod TailBiting
pub mod Rows
pub mod Starts
