-- `stages_wide::moves::limited_column` meets its contract: the values passed are stored.
use native.Mathlib.Omega.{arith}
use Rattle.std.proofs.Common.{rules}
use Rattle.transform_1d.proofs.RowsLaws.{placed_suc, placed_all}
use Rattle.stages_wide.proofs.moves.limited_column.Goals as goal

pub loop-k-preserved : goal.loop-k-preserved
loop-k-preserved c = placed_suc c.loop-k.invariant (omega arith) (omega arith) (search rules)

pub returns : goal.returns
returns c = placed_all _ (omega arith) c.loop-k.invariant
