pub mod Stream
pub mod Table
