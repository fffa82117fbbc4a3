-- Laws of the listing's rules, and the examples.
pub mod SupplyLaws
pub mod ExamplesLaws
