pub mod Planner
pub mod Planned
pub mod Rings
