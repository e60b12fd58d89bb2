pub mod Tables
pub mod Simulation
pub mod MovesOn
pub mod Ending
pub mod Accepted
