-- `level_edits::places::first_beyond` meets its contract. The loop's invariant: no place below `low` is beyond the end, and every place from `high` on is.
use mathlib.Core.Path.{◌≡◌, sym, ◌∙◌}
use Prim.Native.Nat.{◌*◌, ◌%◌, ◌^◌, ◌≤◌}
use native.Mathlib.Nat.{mod-eq_of_lt}
use native.Mathlib.Omega.{arith}
use mir.Syntax.{w32}
use mir.Val.{to_z, of_z}
use Rattle.edit_values.specs.Values.{value_count}
use Rattle.edit_blocks.proofs.ProbeLaws.{count_bound, count_wraps}
use Rattle.level_edits.proofs.PlaceLaws.{beyond_mono, beyond-none}
use Rattle.level_edits.proofs.places.first_beyond.Goals as goal
use Rattle.level_edits.proofs.places.first_beyond.Goals.{At-loop-low}

bound : (c : At-loop-low) → value_count c.args.range ≤ 8388608
bound c = count_bound c.args.range c.requires.1

pub loop-low-init : goal.loop-low-init
loop-low-init c =
    let e = count_wraps c.args.range c.requires.1 in
    (omega arith, omega (arith, e), λ o g h. absurd (let b : ⊥ = omega arith in b), λ o h k. absurd (let b : ⊥ = omega (arith, e) in b))

pub overflow_add-middle : goal.overflow_add-middle
overflow_add-middle c = omega (arith, bound (goal.at.overflow_add-middle c).At-loop-low)

pub beyond-requires : goal.beyond-requires
beyond-requires c = (c.requires.0.manageable, c.requires.1, omega (arith, bound (goal.at.beyond-requires c).At-loop-low))

pub loop-low-preserved-then-beyond : goal.loop-low-preserved-then-beyond
loop-low-preserved-then-beyond c =
    let a = c.args in
    (omega arith, omega arith, c.loop-low.invariant.2, λ o h k. beyond_mono (c.requires.0.scales a.m) a.range (to_z w32 (of_z w32 a.end)) a.strict _ o h (sym c.beyond.ensures ∙ c.if-beyond.true))

pub loop-low-preserved : goal.loop-low-preserved
loop-low-preserved c =
    let a = c.args in
    (omega arith, c.loop-low.invariant.1, λ o g h. beyond-none (c.requires.0.scales a.m) a.range (to_z w32 (of_z w32 a.end)) a.strict o _ (omega arith) (sym c.beyond.ensures ∙ c.if-beyond.false), c.loop-low.invariant.3)
