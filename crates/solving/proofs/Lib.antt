pub mod ShiftLaws
pub mod SolveLaws
pub mod FillLaws
pub mod Examples
pub mod Held
pub mod Planned
