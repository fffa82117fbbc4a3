-- Laws of this crate's definitions; each file builds only on those above it.
pub mod SizeLaws
pub mod PartsLaws
pub mod StageLaws
pub mod ColumnLaws
pub mod NarrowLaws
pub mod MovesLaws
pub mod ResultLaws
pub mod ProductsLaws
pub mod DcLaws
pub mod PassSizeLaws
