pub mod Stepping
pub mod Steps
