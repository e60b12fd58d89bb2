pub mod Grid
pub mod ShortOrder
pub mod Expansion
pub mod Writing
pub mod Theorems
