pub mod Levels
pub mod Between
pub mod Work
