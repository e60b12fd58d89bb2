pub mod ListingLaws
pub mod Tabling
pub mod Converting
pub mod Theorems
pub mod Examples
