pub mod Picture
pub mod Roles
pub mod Admitting
pub mod HereDecision
pub mod Calls
pub mod Theorems
