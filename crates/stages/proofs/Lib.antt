-- Laws of this crate's definitions; each file builds only on those above it.
pub mod FinishLaws
pub mod BlockLaws
pub mod BothLaws
pub mod SizesLaws
pub mod FourLaws
pub mod PlainLaws
