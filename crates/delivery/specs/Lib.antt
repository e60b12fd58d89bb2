pub mod Theorems
pub mod Delivery
