pub mod SideLaws
pub mod NearestLaws
pub mod BlockLaws
pub mod FoundLaws
pub mod InverseLaws
pub mod SixteensLaws
