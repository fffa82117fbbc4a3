pub mod Found
pub mod Work
pub mod Inverse
