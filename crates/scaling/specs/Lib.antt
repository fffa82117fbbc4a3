pub mod Answers
pub mod Factor
pub mod Level
