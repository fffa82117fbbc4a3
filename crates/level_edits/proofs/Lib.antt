-- Levels that scale to a range of coefficients, the block that they are of, and which levels lie between what was found.
pub mod PlaceLaws
pub mod BlockLaws
pub mod FoundLaws
pub mod BetweenLaws
pub mod SixteensLaws
