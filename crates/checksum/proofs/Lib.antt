-- Laws of the checksum's sums, and examples of the definition.
pub mod ChecksumLaws
pub mod Examples
