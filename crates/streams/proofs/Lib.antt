-- Laws for what this crate reads.
pub mod ReadLaws
