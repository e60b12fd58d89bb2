pub mod Running
pub mod Examples
pub mod LegalOn
pub mod StepHolds
pub mod StepsOnLaws
