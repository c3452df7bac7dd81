pub mod Lawful
pub mod Accepted
pub mod Ranges
pub mod Rows
pub mod RowSums
pub mod Layers
pub mod Bounds
