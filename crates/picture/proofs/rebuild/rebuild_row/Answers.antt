-- `picture::rebuild::rebuild_row` meets its contract. The loop's invariant: c samples of the row are put, and the others are as lent.
use mathlib.Core.Path.{◌≡◌}
use Prim.Native.Nat.{◌+◌}
use native.Mathlib.Omega.{arith}
use lib.IntN.{pos}
use lib.ListN.{get_or}
use mir.Syntax.{w32}
use mir.Val.{SFits}
use Rattle.integers.proofs.MachineLaws.{round_trip}
use Rattle.picture.specs.Samples.{rebuilt_at}
use Rattle.picture.proofs.SamplesLaws.{placed_none, placed_more}
use Rattle.picture.proofs.rebuild.rebuild_row.Goals as goal
use Rattle.picture.proofs.rebuild.rebuild_row.Goals.{After-rebuilt_sample}

pub loop-c-init : goal.loop-c-init
loop-c-init c = (placed_none, omega arith)

-- the residual that was read, and the sample worked out of it
residual_fits : (c : After-rebuilt_sample) → SFits w32 (get_or c.args.residual.now (c.args.from + c.loop-c.c) (pos 0))
residual_fits c = record { sfits = omega arith }

value_is : (c : After-rebuilt_sample) → c.rebuilt_sample.result ≡ rebuilt_at c.args.top c.args.residual.now c.args.prediction.now (c.args.from + c.loop-c.c)
unfolding rebuilt_at
value_is c = rw (round_trip (residual_fits c)) at c.rebuilt_sample.ensures

pub loop-c-preserved : goal.loop-c-preserved
loop-c-preserved c = (placed_more c.loop-c.invariant.0 (omega (arith, c.requires.n_in_bounds)) (value_is c), omega arith)
