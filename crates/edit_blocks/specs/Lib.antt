pub mod Edits
pub mod Ladder
pub mod Needs
pub mod Work
