-- `contributions::matrix::dst_column` meets its contract: the loop has stored the entries of the rows passed.
use mathlib.Core.Path.{◌∙◌}
use Prim.Native.Nat.{◌+◌, ◌*◌}
use native.Mathlib.Omega.{arith}
use lib.IntN.{pos}
use lib.ListN.{get_or, length-replicate}
use mir.Syntax.{w16}
use mir.Val.{SFits}
use Rattle.integers.proofs.ListsLaws.{stored_none, stored_more}
use Rattle.integers.proofs.MachineLaws.{round_trip}
use Rattle.transform_1d.proofs.PlaceLaws.{dst_entry}
use Rattle.contributions.proofs.ColumnLaws.{column_stored}
use Rattle.contributions.proofs.matrix.dst_column.Goals as goal

pub loop-k-init : goal.loop-k-init
loop-k-init c = (omega arith, stored_none)

pub loop-k-preserved : goal.loop-k-preserved
loop-k-preserved c =
    let f : SFits w16 (get_or c.args.t.now (4 * c.loop-k.k + c.args.m) (pos 0)) = record { sfits = c.r-1.given } in (
      omega arith,
      stored_more c.loop-k.invariant.1 (omega (arith, length-replicate 32 (pos 0))) (round_trip f ∙ dst_entry c.loop-k.k c.args.m c.requires.0 (omega arith) c.requires.1),
    )

pub returns : goal.returns
returns c = column_stored (omega arith) c.loop-k.invariant.1
