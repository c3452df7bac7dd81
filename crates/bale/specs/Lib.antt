pub mod Definitions
pub mod Inner
pub mod Theorems
pub mod Checks
