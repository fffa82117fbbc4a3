-- Laws of the syntax and of the loops that read it.
pub mod EntriesLaws
pub mod ListLaws
pub mod HeldLaws
pub mod ReaderLaws
pub mod Examples
