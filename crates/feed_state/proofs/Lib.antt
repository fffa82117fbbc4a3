-- Laws of states.
pub mod StateLaws
