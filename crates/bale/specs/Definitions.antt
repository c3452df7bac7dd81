pub mod Words
pub mod Readings
pub mod Sections
pub mod Files
pub mod Reader
pub mod Calls
pub mod Copies
