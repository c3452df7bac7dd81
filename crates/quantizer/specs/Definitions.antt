pub mod Rounding
pub mod Bins
pub mod Values
