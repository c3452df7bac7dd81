pub mod Given
pub mod Arrays
pub mod FileAnswers
pub mod PictureAnswers
pub mod PixelNumbers
pub mod CodedNotes
