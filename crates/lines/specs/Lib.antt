-- What a line asks for (Commands), the bits of an `F` line (Masked), and the lines that answer (Printing).
pub mod Commands
pub mod Masked
pub mod Printing
