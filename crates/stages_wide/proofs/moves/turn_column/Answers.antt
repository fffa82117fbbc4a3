-- `stages_wide::moves::turn_column` meets its contract: the values passed are copied.
use mathlib.Core.Path.{refl}
use Prim.Native.Nat.{◌+◌, ◌*◌, ◌<◌}
use native.Mathlib.Omega.{arith}
use lib.ListN.{length}
use Rattle.std.proofs.Common.{rules}
use Rattle.std.proofs.lemmas.List.{length-map, map-set}
use Rattle.transform_1d.proofs.RowsLaws.{placed_suc, placed_all}
use Rattle.coefficients.proofs.RowsLaws.{row_inside}
use Rattle.stages_wide.proofs.moves.turn_column.Given.{Over}
use Rattle.stages_wide.proofs.moves.turn_column.Goals as goal
use Rattle.stages_wide.proofs.moves.turn_column.Goals.{In-loop-k}

put_at : (g : Over) (c : In-loop-k g) → c.args.c * c.args.n + c.loop-k.k < length c.args.g.now
put_at g c = omega (arith, row_inside c.args.n c.args.c (c.loop-k.k + 1) (omega arith) (omega arith), c.requires.1)

pub offset_bounds-g-c : goal.offset_bounds-g-c
offset_bounds-g-c g c = let b = put_at g (goal.at.offset_bounds-g-c g c).In-loop-k in search (rules, b)

pub loop-k-preserved : goal.loop-k-preserved
loop-k-preserved g c =
    rw (map-set g.V.Output.value c.loop-k.g (c.args.c * c.args.n + c.loop-k.k) c.moved.result)
    (placed_suc c.loop-k.invariant refl (omega (arith, length-map c.args.g.now g.V.Output.value, row_inside c.args.n c.args.c (c.loop-k.k + 1) (omega arith) (omega arith), c.requires.1))
    (search rules))

pub returns : goal.returns
returns g c = placed_all _ (omega arith) c.loop-k.invariant
