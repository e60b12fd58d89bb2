pub mod Rule
pub mod Shortener
pub mod Theorems
