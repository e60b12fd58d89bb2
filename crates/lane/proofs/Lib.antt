pub mod StageLaws
pub mod CarryLaws
pub mod CycleLaws
pub mod PlaceLaws
pub mod FetchLaws
