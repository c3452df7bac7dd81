pub mod Header
pub mod Files
pub mod Calls
