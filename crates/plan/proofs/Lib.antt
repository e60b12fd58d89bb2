pub mod Listing
pub mod Record
pub mod MoveTests
pub mod PlanRecord
pub mod EditionOne
