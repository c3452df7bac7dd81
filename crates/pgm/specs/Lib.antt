pub mod Definitions
pub mod Theorems
pub mod Inner
pub mod Checks
