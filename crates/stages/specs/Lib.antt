pub mod Plain
pub mod Passes
