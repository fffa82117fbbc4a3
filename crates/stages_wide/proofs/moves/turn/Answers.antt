-- `stages_wide::moves::turn` meets its contract: the rows passed are stored.
use native.Mathlib.Omega.{arith}
use Rattle.transform_1d.proofs.RowsLaws.{filled_suc, filled-all}
use Rattle.stages_wide.proofs.moves.turn.Goals as goal

pub loop-c-preserved : goal.loop-c-preserved
loop-c-preserved g c = filled_suc (omega arith) c.loop-c.invariant c.turn_column.ensures

pub returns : goal.returns
returns g c = filled-all _ (omega arith) c.loop-c.invariant
