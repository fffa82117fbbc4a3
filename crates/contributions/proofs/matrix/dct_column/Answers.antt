-- `contributions::matrix::dct_column` meets its contract: the loop has stored the entries of the rows passed.
use mathlib.Core.Path.{refl, ◌∙◌}
use Prim.Native.Nat.{◌+◌, ◌*◌, ◌/◌}
use native.Mathlib.Omega.{arith}
use lib.IntN.{pos}
use lib.ListN.{get_or, length-replicate}
use mir.Syntax.{w16}
use mir.Val.{SFits}
use Rattle.integers.proofs.ListsLaws.{stored_none, stored_more}
use Rattle.integers.proofs.MachineLaws.{round_trip}
use Rattle.h265.proofs.RangeLaws.{size_bound}
use Rattle.transform_1d.proofs.PlaceLaws.{table_entry}
use Rattle.contributions.proofs.ColumnLaws.{column_stored}
use Rattle.contributions.proofs.matrix.dct_column.Goals as goal
use Rattle.contributions.proofs.matrix.dct_column.Goals.{In-loop-k}

pub loop-k-init : goal.loop-k-init
loop-k-init c = (omega arith, refl, stored_none)

pub loop-k-preserved : goal.loop-k-preserved
loop-k-preserved c =
    let f : SFits w16 (get_or c.args.t.now (c.loop-k.k * (1024 / c.args.n) + c.args.m) (pos 0)) = record { sfits = c.r-1.given } in (
      omega arith,
      refl,
      stored_more c.loop-k.invariant.2 (omega (arith, size_bound c.args.n c.requires.1, length-replicate 32 (pos 0)))
          (round_trip f ∙ table_entry c.args.n c.loop-k.k c.args.m c.requires.0 c.requires.1 (omega arith) c.requires.2),
    )

pub returns : goal.returns
returns c = column_stored (omega arith) c.loop-k.invariant.2
