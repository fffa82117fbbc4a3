-- Laws of the level that gives a coefficient, that scaling is one they speak of, and examples.
pub mod LevelLaws
pub mod ScalesLaws
pub mod Examples
