pub mod LanesLaws
pub mod ClampLaws
