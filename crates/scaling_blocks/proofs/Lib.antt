-- Laws that belong to no one function.
pub mod WorkLaws
pub mod BlockLaws
pub mod ReadLaws
