pub mod ElementLaws
pub mod TagLaws
pub mod SeekLaws
pub mod FieldLaws
pub mod OneOutcome
