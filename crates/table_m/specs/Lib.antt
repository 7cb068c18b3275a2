-- Document 01's Table M.
pub mod TableM
