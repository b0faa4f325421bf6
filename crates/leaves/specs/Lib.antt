pub mod Classes
pub mod Seek
