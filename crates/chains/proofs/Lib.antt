pub mod Moves
pub mod Noting
pub mod Following
pub mod ChainLaws
pub mod ChainsLaws
