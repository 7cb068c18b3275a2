-- The layout of a row of branch metrics (Row), which candidate survives (Select), one step (Butterfly), all of them (Forward), the way back (Traceback), and
-- the lowest of the ends (Ends).
pub mod Row
pub mod Select
pub mod Butterfly
pub mod Forward
pub mod Traceback
pub mod Ends
