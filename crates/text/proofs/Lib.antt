-- Laws of text; each file builds only on those above it.
pub mod WroteLaws
pub mod NumberLaws
pub mod BlockLaws
