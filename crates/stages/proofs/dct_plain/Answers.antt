-- `stages::dct_plain` meets its contract: the block of 4 points is that of its size.
use Rattle.transform_1d.specs.MatrixOf.{matrix_of}
use Rattle.stages.proofs.PlainLaws.{result_size}
use Rattle.stages.proofs.dct_plain.Goals as goal

pub returns-then-n-eq4 : goal.returns-then-n-eq4
unfolding matrix_of
returns-then-n-eq4 g c = result_size _ _ _ _ _ c.if-n-eq4.true c.block_4.ensures
