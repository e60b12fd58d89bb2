pub mod Plan
pub mod Verdict
pub mod Readers
