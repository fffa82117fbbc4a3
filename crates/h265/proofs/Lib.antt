-- Laws of the definitions, and the marked examples.
pub mod RangeLaws
pub mod QuantizationLaws
pub mod TransformLaws
pub mod TransformSkipLaws
pub mod ExamplesLaws
