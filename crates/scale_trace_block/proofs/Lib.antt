-- Laws of the lines of a block and of their room; each file builds only on those above it.
pub mod RuleLaws
pub mod LineLaws
pub mod RoomLaws
