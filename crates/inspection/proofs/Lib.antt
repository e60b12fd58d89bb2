pub mod CopyLaws
pub mod ShownLaws
pub mod PartLaws
pub mod ToldLaws
pub mod ClearedLaws
