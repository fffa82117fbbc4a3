-- `block_tool_work::copy_levels` meets its contract. The loop's invariant: the first i places hold their levels, and the others are as lent.
use native.Mathlib.Omega.{arith}
use lib.IntN.{pos}
use lib.ListN.{get_or}
use mir.Syntax.{w32}
use mir.Val.{SFits}
use Rattle.integers.proofs.MachineLaws.{round_trip}
use Rattle.integers.proofs.ListsLaws.{stored_none, stored_more}
use Rattle.block_tool_work.proofs.copy_levels.Goals as goal
use Rattle.block_tool_work.proofs.copy_levels.Goals.{After-out-1}

pub loop-i-init : goal.loop-i-init
loop-i-init c = (omega arith, stored_none)

level_fits : (c : After-out-1) → let l = c in SFits w32 (get_or l.args.levels.now l.loop-i.i (pos 0))
level_fits c = record { sfits = c.out-1.given }

pub loop-i-preserved : goal.loop-i-preserved
loop-i-preserved c =
    let l = c in
    (omega arith, stored_more l.loop-i.invariant.1 (omega (arith, l.requires.1, c.loop-i-test.true)) (round_trip (level_fits c)))
