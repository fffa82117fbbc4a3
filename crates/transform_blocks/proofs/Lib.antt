-- The ladder of refusals, step by step, and a column count above the size.
pub mod BlocksLaws
pub mod NarrowLaws
