-- `stages::blocks::line_of` meets its contract: each kind has its line.
use Rattle.transform_1d.specs.MatrixOf.{matrix_of}
use Rattle.stages.proofs.blocks.line_of.Goals as goal

pub returns-in-Dct : goal.returns-in-Dct
unfolding matrix_of
returns-in-Dct c = rw c.in-Dct.is c.line_4.ensures

pub returns-in-Dst : goal.returns-in-Dst
unfolding matrix_of
returns-in-Dst c = rw c.in-Dst.is c.line_dst.ensures
