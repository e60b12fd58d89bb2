pub mod Loops
pub mod Counts
pub mod Split
pub mod Program
pub mod Examples
pub mod ProgramExamples
pub mod Sizes
pub mod TextLaws
