pub mod Lane
pub mod Moves
