-- Laws of columns, of the shared refusals, of an opening and an edit, and the same of levels.
pub mod ColumnsLaws
pub mod OpeningLaws
pub mod LadderLaws
pub mod LevelLaws
pub mod LevelOpeningLaws
