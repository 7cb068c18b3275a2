-- A run of the program `frames`: the reply to a line (Replies), totals and closing lines (Totals), what is written for an input (Output), long and blank lines (BlankLines), the order of the `C` lines (CodeLines), an input byte by byte (Scanning), what the functions do in these terms (Sessions), and an input fed in pieces (Transcript).
pub mod Replies
pub mod Totals
pub mod Output
pub mod BlankLines
pub mod CodeLines
pub mod Scanning
pub mod Sessions
pub mod Transcript
