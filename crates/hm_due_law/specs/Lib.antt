pub mod Tidy
pub mod Declared
pub mod Answers
pub mod Agreed
pub mod Laws
