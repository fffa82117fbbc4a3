pub mod Refusal
pub mod Outcome
pub mod Condition
pub mod Written
pub mod Check
