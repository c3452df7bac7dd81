pub mod WorkedFiles
pub mod CopiesMade
pub mod Totality
pub mod Numbers
pub mod Conditions
pub mod Refused
pub mod ShapeSection
