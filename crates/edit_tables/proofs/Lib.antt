-- Tables of a block, the loops that fill them, and the matrix of a kind.
pub mod TableLaws
pub mod MatrixLaws
