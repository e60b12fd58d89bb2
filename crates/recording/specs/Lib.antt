pub mod Head
pub mod Front
