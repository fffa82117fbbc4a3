-- `level_search::nearest::sided` meets its contract: a size of at most 2^22 and its negation fit 32 bits.
use mathlib.Core.Path.{◌≡◌, sym, ap, ◌∙◌}
use native.Mathlib.Omega.{arith}
use lib.IntN.{ℤ, pos, neg_ℤ, ◌-ℤ◌, +ℤ_idl}
use mir.Syntax.{w32}
use mir.Val.{to_z}
use mir.Facts.{to_z_pos}
use Rattle.integers.proofs.MachineLaws.{round_trip}
use Rattle.integers.proofs.BoundLaws.{within_pos, within_neg, within_fits}
use Rattle.level_search.proofs.NearestLaws.{sided_below, sided_above}
use Rattle.level_search.proofs.nearest.sided.Goals as goal
use Rattle.level_search.proofs.nearest.sided.Goals.{Start}

size_is : (c : Start) → to_z w32 c.args.size ≡ pos c.args.size
size_is c = to_z_pos w32 (omega (arith, c.requires))

negated_is : (c : Start) → pos 0 -ℤ to_z w32 c.args.size ≡ neg_ℤ (pos c.args.size)
negated_is c = ap (λ (z : ℤ). pos 0 -ℤ z) (size_is c) ∙ +ℤ_idl (neg_ℤ (pos c.args.size))

pub overflow_sub-result : goal.overflow_sub-result
overflow_sub-result c = rw (negated_is (goal.at.overflow_sub-result c).Start) (within_fits {b = 4194304} tt (within_neg (within_pos c.requires)))

pub returns-then-x-lt0 : goal.returns-then-x-lt0
returns-then-x-lt0 c =
    let a = c.args in
    round_trip (overflow_sub-result c) ∙ negated_is (goal.at.returns-then-x-lt0 c).Start
    ∙ sym (sided_below a.x a.size (rw (round_trip c.ranges.x) at c.if-x-lt0.true))

pub returns : goal.returns
returns c =
    let a = c.args in
    size_is (goal.at.returns c).Start ∙ sym (sided_above a.x a.size (rw (round_trip c.ranges.x) at c.if-x-lt0.false))
