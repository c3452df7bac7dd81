pub mod FullRebuilding
pub mod Windows
