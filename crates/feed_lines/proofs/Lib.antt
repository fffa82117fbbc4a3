-- Laws of lines.
pub mod LineLaws
