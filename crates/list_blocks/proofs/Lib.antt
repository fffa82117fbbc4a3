-- Laws of blocks by number.
pub mod ScaleLaws
