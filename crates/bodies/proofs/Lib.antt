pub mod PieceLaws
pub mod SplitLaws
pub mod RuleLaws
pub mod OneOutcome
