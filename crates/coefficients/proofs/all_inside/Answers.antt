-- `coefficients::all_inside` meets its contract. The loop's invariant: the bits gathered reach every coefficient passed.
use native.Mathlib.Omega.{arith}
use lib.IntN.{pos}
use lib.ListN.{get_or}
use mir.Syntax.{w32}
use mir.Val.{SFits}
use Rattle.integers.proofs.MachineLaws.{round_trip}
use Rattle.coefficients.proofs.OutsideLaws.{all_reach_suc}
use Rattle.coefficients.proofs.all_inside.Goals as goal

pub loop-x-preserved : goal.loop-x-preserved
loop-x-preserved c =
    let f : SFits w32 (get_or c.args.coeff.now c.loop-x.x-index (pos 0)) = record { sfits = omega arith } in
    all_reach_suc c.loop-x.bits c.reach-bits.result c.loop-x.invariant (rw (round_trip f) at c.reach-bits.ensures)
