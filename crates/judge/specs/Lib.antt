pub mod Shown
pub mod Turns
