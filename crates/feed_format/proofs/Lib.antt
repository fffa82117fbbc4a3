-- Laws of the format, of values and of rooms; each file builds only on those above it.
pub mod BufferLaws
pub mod FormatLaws
pub mod ValueLaws
pub mod RoomLaws
