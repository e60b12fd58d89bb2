pub mod Went
pub mod Journey
pub mod OnePlace
pub mod Table
