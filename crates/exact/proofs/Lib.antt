pub mod Filling
pub mod ReadLaws
pub mod OneOutcome
