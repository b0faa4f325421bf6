pub mod Judged
pub mod Shown
pub mod Headers
pub mod Bodies
pub mod Formats
pub mod Shapes
