pub mod Walk
pub mod Connected
pub mod Rows
pub mod Levels
pub mod Nearest
pub mod EdgeCount
