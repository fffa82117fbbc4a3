pub mod Found
pub mod Between
