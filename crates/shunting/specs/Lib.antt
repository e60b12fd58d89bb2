pub mod Distance
pub mod Cleared
