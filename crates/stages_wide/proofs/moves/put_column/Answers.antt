-- `stages_wide::moves::put_column` meets its contract: the rows passed are stored.
use Prim.Native.Nat.{◌+◌}
use native.Mathlib.Omega.{arith}
use lib.ListN.{length}
use Rattle.std.proofs.Common.{rules}
use Rattle.coefficients.proofs.RowsLaws.{row_inside}
use Rattle.stages_wide.proofs.ColumnLaws.{column_placed_suc}
use Rattle.stages_wide.proofs.moves.put_column.Goals as goal

pub loop-m-preserved : goal.loop-m-preserved
loop-m-preserved c =
    column_placed_suc c.requires.1.inside c.loop-m.invariant (omega (arith, row_inside (length c.args.r.now) c.loop-m.m (c.args.column + 1) (omega arith) (omega arith), c.requires.1.whole)) (search rules)
