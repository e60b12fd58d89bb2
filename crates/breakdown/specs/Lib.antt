pub mod Breakdown
pub mod Choice
pub mod Building
pub mod Answer
pub mod Part
