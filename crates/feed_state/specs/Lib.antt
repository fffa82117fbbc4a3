pub mod Buffers
pub mod Taken
