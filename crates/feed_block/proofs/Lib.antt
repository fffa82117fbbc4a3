-- Laws of blocks; each file builds only on those above it.
pub mod ScaleLaws
pub mod OpenLaws
