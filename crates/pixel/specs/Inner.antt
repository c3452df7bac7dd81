pub mod Axes
pub mod Blocks
pub mod Places
pub mod Reading
