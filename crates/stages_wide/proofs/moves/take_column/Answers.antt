-- `stages_wide::moves::take_column` meets its contract: the values passed are copied.
use Prim.Native.Nat.{◌*◌}
use native.Mathlib.Omega.{arith}
use Rattle.std.proofs.Common.{rules}
use Rattle.std.proofs.lemmas.List.{length-map, map-set}
use Rattle.coefficients.proofs.RowsLaws.{row_inside}
use Rattle.stages_wide.proofs.ColumnLaws.{column_placed_put, column_placed_all}
use Rattle.stages_wide.proofs.moves.take_column.Goals as goal
use Rattle.stages_wide.proofs.moves.take_column.Goals.{In-loop-k}

pub loop-k-preserved : goal.loop-k-preserved
loop-k-preserved g c =
    rw (map-set g.V.Output.value c.loop-k.g (c.loop-k.k * c.args.n) c.moved.result)
    (column_placed_put (omega arith) c.loop-k.invariant (omega arith) (omega (arith, length-map c.args.g.now g.V.Output.value, row_inside c.args.n c.loop-k.k 1 (omega arith) (omega arith), c.requires.1))
    (search rules))

pub returns : goal.returns
returns g c = column_placed_all _ (omega arith) c.loop-k.invariant
