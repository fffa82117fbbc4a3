-- Laws of what a record does, and the examples.
pub mod EffectLaws
pub mod ExamplesLaws
