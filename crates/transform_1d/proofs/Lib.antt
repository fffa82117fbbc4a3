-- Laws of this crate's definitions; each file builds only on those above it.
pub mod RowsLaws
pub mod MatrixLaws
pub mod KindLaws
pub mod PlaceLaws
