pub mod Exact
pub mod Bound
pub mod Closeness
