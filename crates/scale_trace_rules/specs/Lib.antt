pub mod Block
pub mod Supply
pub mod Trace
pub mod Examples
