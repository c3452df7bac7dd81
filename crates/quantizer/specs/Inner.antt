pub mod Division
pub mod Ranges
pub mod Reciprocals
