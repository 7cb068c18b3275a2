-- The slots that carry FACCH words.
pub mod Wire
pub mod Laws
