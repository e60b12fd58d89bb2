pub mod Knowing
pub mod Lending
pub mod Steps
pub mod Turning
