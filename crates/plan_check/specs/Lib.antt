pub mod Judging
pub mod Solutions
