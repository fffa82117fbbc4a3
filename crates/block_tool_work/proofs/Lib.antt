pub mod AccumulationLaws
pub mod RotationLaws
pub mod ModificationLaws
pub mod SkipLaws
pub mod ResidualLaws
