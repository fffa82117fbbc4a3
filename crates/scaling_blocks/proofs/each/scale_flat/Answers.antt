-- `scaling_blocks::each::scale_flat` meets its contract: what a step stores and counts is the definition's, at one index more.
use mathlib.Core.Path.{◌≡◌, ◌∙◌}
use mathlib.Core.Bool.{cond}
use native.Mathlib.Omega.{arith}
use Rattle.std.proofs.lemmas.List.{length-map}
use Rattle.integers.proofs.MachineLaws.{round_trip}
use Rattle.integers.proofs.ListsLaws.{stored_none}
use Rattle.scaling_values.specs.Flat.{short_at, short_limited_at}
use Rattle.scaling_values.proofs.CountLaws.{tally_none, tally_more, tally_small, tally_room}
use Rattle.scaling_blocks.proofs.WorkLaws.{reads_more}
use Rattle.scaling_blocks.proofs.each.scale_flat.Goals as goal
use Rattle.scaling_blocks.proofs.each.scale_flat.Goals.{After-scaled_flat-scaled}

pub loop-i-init : goal.loop-i-init
loop-i-init g c = record { stored = stored_none; told = tally_none }

limited_is : (g : _) → (c : After-scaled_flat-scaled g) → c.scaled_flat-scaled.result.limited ≡ cond (short_limited_at c.args.by c.args.levels.now c.loop-i.i) 1 0
unfolding short_limited_at
limited_is g c = rw (round_trip (record { sfits = c.scaled_flat-arg-1.given })) at c.scaled_flat-scaled.ensures.limited

value_is : (g : _) → (c : After-scaled_flat-scaled g) → c.scaled_flat-scaled.result.value ≡ short_at c.args.by c.args.levels.now c.loop-i.i
unfolding short_at
value_is g c = rw (round_trip (record { sfits = c.scaled_flat-arg-1.given })) at c.scaled_flat-scaled.ensures.value

pub overflow_add-limited : goal.overflow_add-limited
overflow_add-limited g c =
    omega (arith, c.requires.count_bound, tally_room c.loop-i.invariant.told (limited_is g (goal.at.overflow_add-limited g c).After-scaled_flat-scaled))

pub loop-i-preserved : goal.loop-i-preserved
loop-i-preserved g c =
    let s = (goal.at.loop-i-preserved g c).After-scaled_flat-scaled in
    record {
      stored =
          reads_more g.R.Residual.reads c.loop-i.out c.loop-i.invariant.stored (rw (length-map c.args.out.now g.R.Residual.reads) (omega (arith, c.requires.room)))
          (c.of.ensures ∙ round_trip c.scaled_flat-scaled.ensures.fits ∙ value_is g s);
      told = tally_more c.loop-i.invariant.told (limited_is g s);
    }

pub overflow_cast-result : goal.overflow_cast-result
overflow_cast-result g c = omega (arith, c.requires.count_bound, tally_small c.loop-i.invariant.told)
