pub mod Quick
pub mod Counted
pub mod Segments
pub mod Transport
