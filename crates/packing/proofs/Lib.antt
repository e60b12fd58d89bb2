pub mod Sized
pub mod PackedLaws
