pub mod Colours
pub mod Permutation
pub mod Impossible
pub mod ColourDecision
pub mod OneVacancy
pub mod Verdict
pub mod Work
pub mod Theorems
