pub mod SettleLaws
pub mod Examples
pub mod LaneExamples
