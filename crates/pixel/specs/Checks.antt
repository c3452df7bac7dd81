pub mod Ranges
pub mod Numbers
pub mod Conditions
pub mod Refused
pub mod WorkedPixels
