pub mod Bits
pub mod ExpGolomb
