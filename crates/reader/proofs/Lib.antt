pub mod OneOutcome
pub mod NotedRows
