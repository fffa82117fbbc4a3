pub mod Sample
pub mod Explain
pub mod Work
