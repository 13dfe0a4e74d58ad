mod Tests
mod Digits
mod HexDigits
mod HexTexts
pub mod ListLaws
pub mod StampLaws
