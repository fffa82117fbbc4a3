-- Laws of a stage in two parts.
pub mod PassLaws
