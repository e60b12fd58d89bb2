pub mod Examples
pub mod PrintedLaws
