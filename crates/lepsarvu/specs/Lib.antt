pub mod Definitions
pub mod Inner
pub mod Checks
