pub mod Routes
pub mod Shortest
