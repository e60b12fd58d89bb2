pub mod Improving
pub mod Choices
