pub mod JourneyLaws
pub mod WentLaws
pub mod TableLaws
