-- `edit_tables::matrix::matrix` meets its contract: a kind is the DCT, or the DST, whose size is 4.
use Rattle.edit_tables.proofs.MatrixLaws.{holds_dct, holds_dst}
use Rattle.edit_tables.proofs.matrix.matrix.Goals as goal

pub returns-in-Dct : goal.returns-in-Dct
returns-in-Dct c = holds_dct c.in-Dct.is c.dct_matrix.ensures

pub returns-in-Dst : goal.returns-in-Dst
returns-in-Dst c = holds_dst c.in-Dst.is (c.requires.1 c.in-Dst.is) c.dst_matrix.ensures
