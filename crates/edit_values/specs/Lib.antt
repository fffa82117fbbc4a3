pub mod Values
pub mod Sample
