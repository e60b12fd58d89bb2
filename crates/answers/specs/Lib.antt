pub mod Answer
pub mod Ascii
pub mod Family
pub mod Found
