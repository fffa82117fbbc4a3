pub mod Answers
pub mod Parameters
