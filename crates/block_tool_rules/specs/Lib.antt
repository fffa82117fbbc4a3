pub mod Modification
pub mod Residual
pub mod Examples
