pub mod Inspection
pub mod Told
pub mod Clear
