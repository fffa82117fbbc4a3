-- Laws that belong to no one function.
pub mod FactorLaws
pub mod CountLaws
pub mod LevelLaws
pub mod DivisionLaws
pub mod ThresholdLaws
pub mod FlatLaws
pub mod ListedLaws
pub mod LongLaws
pub mod SkipLaws
