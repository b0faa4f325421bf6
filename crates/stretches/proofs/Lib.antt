pub mod Lying
pub mod OneOutcome
