-- The slot order of VSELP.
pub mod Wire
pub mod Laws
