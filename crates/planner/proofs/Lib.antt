pub mod RoundKept
pub mod RoundReached
pub mod RingTheorem
pub mod Making
pub mod Examples
pub mod PlannerLaws
