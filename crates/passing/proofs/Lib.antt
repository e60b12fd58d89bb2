pub mod StretchLaws
pub mod Stretching
