pub mod Grammar
pub mod WorkedFiles
pub mod Numbers
pub mod Conditions
pub mod Refused
