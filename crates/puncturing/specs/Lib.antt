-- The punctured code of ACELP CC1: what is searched (Punctured), and with which rows of branch metrics (Rows).
pub mod Punctured
pub mod Rows
