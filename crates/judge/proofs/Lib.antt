pub mod RowBounds
pub mod WalkLaws
pub mod JudgeLaws
pub mod Judged
pub mod OneOutcome
