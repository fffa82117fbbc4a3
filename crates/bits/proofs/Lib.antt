-- Laws of bits and of codes.
pub mod BitsLaws
pub mod ExpGolombLaws
pub mod Examples
