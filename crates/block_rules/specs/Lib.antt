pub mod Columns
pub mod Edit
pub mod Opening
pub mod Level
pub mod Work
pub mod Examples
