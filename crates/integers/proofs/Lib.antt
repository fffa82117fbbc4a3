-- General laws; each file builds only on those above it.
pub mod LinearLaws
pub mod OrderLaws
pub mod MachineLaws
pub mod BoundLaws
pub mod ClipLaws
pub mod ShiftLaws
pub mod SumLaws
pub mod ListsLaws
pub mod SearchLaws
pub mod TestLaws
