-- Laws of this crate's definitions.
pub mod OutsideLaws
pub mod RowsLaws
