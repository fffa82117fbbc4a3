-- Laws of rebuilt samples in a plane, and examples of the definitions.
pub mod SamplesLaws
pub mod RebuildLaws
pub mod Examples
