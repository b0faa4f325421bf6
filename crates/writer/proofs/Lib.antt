pub mod LayingLaws
pub mod Comparing
pub mod Composed
pub mod OneOutcome
