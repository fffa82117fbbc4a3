-- Laws of the open block.
pub mod HeldLaws
