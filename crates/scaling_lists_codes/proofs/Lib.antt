-- Laws of the signed numbers in the syntax, and of reading on.
pub mod ValueLaws
pub mod ReadingLaws
