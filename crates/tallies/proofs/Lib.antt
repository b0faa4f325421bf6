pub mod TallyTurns
pub mod Agreement
pub mod OneOutcome
