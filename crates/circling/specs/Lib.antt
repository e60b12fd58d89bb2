pub mod Lands
pub mod Drive
pub mod Needs
