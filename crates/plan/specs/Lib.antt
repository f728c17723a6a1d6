pub mod Sent
pub mod Answers
