pub mod Circle
pub mod From
pub mod Moves
pub mod Swap
