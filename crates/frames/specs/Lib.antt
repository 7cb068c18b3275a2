-- The reads and writes of the standard streams (Streams) and the turns of the program (Turns).
pub mod Streams
pub mod Turns
