pub mod Format
pub mod Room
