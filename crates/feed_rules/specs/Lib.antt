pub mod Block
pub mod Record
pub mod Feed
pub mod Examples
