pub mod Factor
pub mod Level
pub mod Flat
pub mod Listed
pub mod Long
pub mod Skip
pub mod Work
pub mod Given
