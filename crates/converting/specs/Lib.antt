pub mod Converter
pub mod Theorems
pub mod Listing
