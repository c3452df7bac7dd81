pub mod Definitions
pub mod Theorems
pub mod Checks
pub mod Inner
