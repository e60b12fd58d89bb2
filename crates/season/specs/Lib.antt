pub mod Season
pub mod Pair
pub mod Theorems
