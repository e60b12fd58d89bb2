pub mod ListingLaws
pub mod ReachLaws
pub mod OneRack
pub mod WayLaws
pub mod Theorems
pub mod Making
pub mod Examples
