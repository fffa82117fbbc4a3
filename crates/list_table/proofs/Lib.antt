-- Laws of the calls on a table, and of lists of calls.
pub mod AnswerLaws
pub mod RunLaws
pub mod Examples
