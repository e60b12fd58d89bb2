pub mod CircleLaws
pub mod RoundLaws
pub mod OrderLaws
pub mod StandingLaws
pub mod Examples
pub mod RoundDecision
