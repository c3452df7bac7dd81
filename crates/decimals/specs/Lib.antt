pub mod Definitions
pub mod Checks
