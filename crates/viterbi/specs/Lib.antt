-- Hard-decision searches: what they find (Hard), and the rows of branch metrics that they search with (Rows).
pub mod Hard
pub mod Rows
