-- What the functions below the refusals rely on.
pub mod ParametersLaws
