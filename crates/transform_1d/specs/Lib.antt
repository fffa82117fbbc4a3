pub mod Kinds
pub mod MatrixOf
pub mod Rows
