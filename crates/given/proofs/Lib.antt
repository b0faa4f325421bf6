pub mod GivenLaws
pub mod OneOutcome
