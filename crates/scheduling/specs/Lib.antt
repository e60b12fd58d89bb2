pub mod Making
pub mod Windows
pub mod Maker
