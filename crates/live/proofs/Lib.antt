pub mod Driving
pub mod Examples
pub mod Following
pub mod Gate
pub mod HereLaws
pub mod Theorems
