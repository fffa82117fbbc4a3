-- Laws of places, and of the streams in a table.
pub mod PlaceLaws
pub mod TableLaws
