pub mod FillingLaws
pub mod Leaving
pub mod Passing
