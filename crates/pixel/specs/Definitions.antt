pub mod Windows
pub mod Pixel
