pub mod Same
pub mod Written
pub mod Statements
