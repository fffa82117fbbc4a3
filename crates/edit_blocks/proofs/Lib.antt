-- What a changed coefficient changes, and what the loops over samples and indices find.
pub mod ChangedLaws
pub mod SieveLaws
pub mod ProbeLaws
pub mod FindLaws
