pub mod Turned
pub mod Undone
