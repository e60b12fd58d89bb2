pub mod StepOn
pub mod Chains
