-- The words of FACCH and SACCH.
pub mod Words
