-- `stages_wide::products::limit` meets its contract: the values passed are stored.
use native.Mathlib.Omega.{arith}
use Rattle.std.proofs.Common.{rules}
use Rattle.transform_1d.proofs.RowsLaws.{placed_suc}
use Rattle.stages_wide.proofs.products.limit.Goals as goal

pub loop-j-preserved : goal.loop-j-preserved
loop-j-preserved c = placed_suc c.loop-j.invariant (omega arith) (omega arith) (search rules)
