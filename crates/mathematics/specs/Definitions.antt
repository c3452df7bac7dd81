pub mod Distances
pub mod Sums
pub mod Tables
pub mod Tests
