-- `scaling_blocks::each::scale_entries` meets its contract: what a step stores and counts is the definition's, at one index more.
use mathlib.Core.Path.{◌≡◌, ◌∙◌, subst, sym}
use mathlib.Core.Bool.{cond}
use native.Mathlib.Omega.{arith}
use lib.IntN.{ℤ}
use lib.ListN.{get_or}
use mir.Syntax.{w32}
use mir.Val.{SFits}
use Rattle.std.proofs.lemmas.List.{length-map}
use Rattle.integers.proofs.MachineLaws.{round_trip}
use Rattle.integers.proofs.ListsLaws.{stored_none}
use Rattle.scaling_values.proofs.CountLaws.{tally_none, tally_more, tally_small, tally_room}
use Rattle.scaling_blocks.specs.Each.{by_entry}
use Rattle.scaling_blocks.proofs.WorkLaws.{reads_more, output_within}
use Rattle.scaling_blocks.proofs.each.scale_entries.Goals as goal
use Rattle.scaling_blocks.proofs.each.scale_entries.Goals.{After-scaled-scaled}

pub loop-i-init : goal.loop-i-init
loop-i-init g c = record { stored = stored_none; told = tally_none }

limited_is : (g : _) → (c : After-scaled-scaled g)
    → c.scaled-scaled.result.limited ≡ cond (by_entry (g.P.ByEntry.limits c.args.by) (λ i. get_or c.args.entries.now i 0) c.args.levels.now c.loop-i.i) 1 0
limited_is g c = rw (round_trip (record { sfits = c.scaled-arg-1.given })) at c.scaled-scaled.ensures.limited

value_is : (g : _) → (c : After-scaled-scaled g)
    → c.scaled-scaled.result.value ≡ by_entry (g.P.ByEntry.scales c.args.by) (λ i. get_or c.args.entries.now i 0) c.args.levels.now c.loop-i.i
value_is g c = rw (round_trip (record { sfits = c.scaled-arg-1.given })) at c.scaled-scaled.ensures.value

value_fits : (g : _) → (c : After-scaled-scaled g) → SFits w32 c.scaled-scaled.result.value
value_fits g c = subst (λ (z : ℤ). SFits w32 z) (sym (value_is g c)) (output_within g.R.Residual.NARROW (c.requires.fits _ _))

pub overflow_add-limited : goal.overflow_add-limited
overflow_add-limited g c =
    omega (arith, c.requires.count_bound, tally_room c.loop-i.invariant.told (limited_is g (goal.at.overflow_add-limited g c).After-scaled-scaled))

pub loop-i-preserved : goal.loop-i-preserved
loop-i-preserved g c =
    let s = (goal.at.loop-i-preserved g c).After-scaled-scaled in
    record {
      stored =
          reads_more g.R.Residual.reads c.loop-i.out c.loop-i.invariant.stored (rw (length-map c.args.out.now g.R.Residual.reads) (omega (arith, c.requires.room)))
          (c.of.ensures ∙ round_trip (value_fits g s) ∙ value_is g s);
      told = tally_more c.loop-i.invariant.told (limited_is g s);
    }

pub overflow_cast-result : goal.overflow_cast-result
overflow_cast-result g c = omega (arith, c.requires.count_bound, tally_small c.loop-i.invariant.told)
