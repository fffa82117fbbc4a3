-- Laws of scaling lists as bits; each file builds only on those above it.
pub mod SameLaws
pub mod DeltaLaws
pub mod ListLaws
pub mod WrittenLaws
pub mod Examples
