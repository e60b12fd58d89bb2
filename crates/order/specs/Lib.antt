pub mod Floor
pub mod Order
pub mod Verdict
pub mod RecordLength
pub mod EdgeSets
pub mod Theorems
pub mod Readers
pub mod Tables
