-- Laws of this crate's definitions; each file builds only on those above it.
pub mod ValuesLaws
pub mod HalvesLaws
