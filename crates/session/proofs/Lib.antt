-- The laws of replies and totals, and that pieces of an input, however it is cut, come to what is written for the whole.
pub mod Replying
pub mod BlankLines
pub mod LastLf
pub mod Closing
pub mod CodeOrder
pub mod CodeLines
pub mod Cut
pub mod Whole
pub mod Unread
pub mod Ended
pub mod Ending
pub mod Gathered
pub mod Stepped
pub mod Placed
pub mod Transcript
