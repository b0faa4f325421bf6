pub mod FaultLaws
pub mod OneOutcome
