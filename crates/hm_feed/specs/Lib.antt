pub mod Sending
pub mod Answers
