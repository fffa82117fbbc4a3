-- `stages_wide::blocks::dct_sized` meets its contract: a size is 4, 8 or 16, or else 32.
use Rattle.transform_1d.specs.MatrixOf.{matrix_of}
use Rattle.stages_wide.proofs.ResultLaws.{filled_sized}
use Rattle.stages_wide.proofs.blocks.dct_sized.Goals as goal

pub returns-in-4 : goal.returns-in-4
unfolding matrix_of
returns-in-4 c = let k = c.args in filled_sized k.shift k.range k.nx k.coeff.now c.in-4.is c.both_4.ensures
