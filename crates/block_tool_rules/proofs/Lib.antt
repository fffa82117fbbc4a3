-- The examples.
pub mod ExamplesLaws
