pub mod RoundLaws
pub mod OneOutcome
