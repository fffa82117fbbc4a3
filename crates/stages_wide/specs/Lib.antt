pub mod Wide
pub mod Parts
pub mod Products
