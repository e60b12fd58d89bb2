pub mod DistanceLaws
pub mod ClearLaws
pub mod BringLaws
pub mod Examples
pub mod TableExamples
pub mod NearestDecision
