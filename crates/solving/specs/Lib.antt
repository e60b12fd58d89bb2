pub mod Shift
pub mod Placed
pub mod Moves
