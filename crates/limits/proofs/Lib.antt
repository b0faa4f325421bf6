pub mod OneOutcome
pub mod Rows
