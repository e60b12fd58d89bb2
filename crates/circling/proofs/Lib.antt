pub mod LandsLaws
pub mod PaceLaws
pub mod DriveLaws
pub mod NeedsLaws
pub mod SolveLaws
pub mod Examples
