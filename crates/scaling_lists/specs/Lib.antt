pub mod Answers
pub mod Work
