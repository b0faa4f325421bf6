pub mod BodyLaws
pub mod HeaderLaws
pub mod ValueLaws
pub mod FormatTests
pub mod RowCounts
pub mod FormatLaws
pub mod ShapeLaws
pub mod OneOutcome
