pub mod Bits
pub mod Bytes
pub mod Listed
pub mod Units
pub mod Packing
pub mod Writing
pub mod PlanMoves
