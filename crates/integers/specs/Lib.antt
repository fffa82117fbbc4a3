pub mod Clip
pub mod Shift
pub mod Sum
pub mod Lists
pub mod Search
pub mod Within
pub mod Examples
