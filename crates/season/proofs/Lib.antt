pub mod SeasonLaws
pub mod Pairs
pub mod Examples
