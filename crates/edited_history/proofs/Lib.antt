-- Laws of one edit, of agreement with the history, and of whole lists of edits.
pub mod EditLaws
pub mod AgreesLaws
pub mod HistoryLaws
