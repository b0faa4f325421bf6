pub mod Table
pub mod OneOutcome
