pub mod LookingLaws
pub mod MarkLaws
