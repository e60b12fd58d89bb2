pub mod Choosing
pub mod Overwriting
