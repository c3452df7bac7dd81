pub mod Digits
pub mod DigitLaws
pub mod Text
pub mod TextLaws
pub mod Counting
pub mod Reading
