pub mod Samples
pub mod Rebuild
