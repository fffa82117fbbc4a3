-- `stages_wide::products::put_rounded` meets its contract: the sums passed are stored.
use native.Mathlib.Omega.{arith}
use Rattle.std.proofs.Common.{rules}
use Rattle.transform_1d.proofs.RowsLaws.{placed_suc, placed_all}
use Rattle.stages_wide.proofs.products.put_rounded.Goals as goal

pub loop-j-preserved : goal.loop-j-preserved
loop-j-preserved c = placed_suc c.loop-j.invariant (omega arith) (omega arith) (search rules)

pub returns : goal.returns
returns c = placed_all _ (omega arith) c.loop-j.invariant
