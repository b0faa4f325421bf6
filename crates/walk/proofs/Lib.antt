pub mod Offsets
pub mod Walks
pub mod Standing
pub mod Shaped
pub mod Enveloped
pub mod Promises
pub mod OneOutcome
