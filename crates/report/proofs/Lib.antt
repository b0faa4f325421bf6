pub mod Filled
pub mod OneOutcome
pub mod Printed
