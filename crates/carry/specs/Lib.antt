pub mod Carry
pub mod CarryAnswer
pub mod Theorems
pub mod Listing
