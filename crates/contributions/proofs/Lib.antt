-- What a call hands back case by case, what a table has of a matrix, sums over a block, and the statements of specs/Explain.antt, proved.
pub mod SampleLaws
pub mod ColumnLaws
pub mod BlockSumLaws
pub mod ExplainLaws
