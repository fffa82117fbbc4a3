-- `scaling_values::skip::skipped` meets its contract: t is at most 6 in size, so every number fits 32 bits, and the two arms are the
-- definition's cases by the sign of t.
use mathlib.Core.Path.{◌≡◌, ◌∙◌}
use Prim.Native.Nat.{◌+◌, ◌*◌, ◌^◌, ◌≤◌}
use native.Mathlib.Omega.{arith}
use lib.IntN.{pos, nat_abs, ◌+ℤ◌, ◌*ℤ◌}
use lib.Pow.{pow_mono}
use lib.Signed.{shr_z, ◌≤ℤ◌, ◌<ℤ◌}
use mir.Syntax.{w32}
use Rattle.integers.specs.Within.{Within}
use Rattle.integers.proofs.MachineLaws.{round_trip, lt_z_true, lt_z_false, shl_one, sfits_shr}
use Rattle.integers.proofs.BoundLaws.{within_fits, within_pos, within_mul, within_add, within_eq}
use Rattle.h265.specs.TransformSkip.{ts_residual}
use Rattle.scaling_values.proofs.SkipLaws.{ts_residual-left, ts_residual_right, ts_add_within}
use Rattle.scaling_values.proofs.skip.skipped.Goals as goal
use Rattle.scaling_values.proofs.skip.skipped.Goals.{After-unsigned_abs-places, Else-shift-lt0, Start, Then-shift-lt0}

-- ---- t < 0
negative : (c : Then-shift-lt0) → c.args.shift <ℤ pos 0
negative c = lt_z_true (rw (round_trip c.ranges.shift) at c.if-shift-lt0.true)

small : (c : Start) → nat_abs c.args.shift ≤ 6
small c = c.requires.shift.within

-- the places to shift by
places_is : (c : After-unsigned_abs-places) → c.unsigned_abs-places.result ≡ nat_abs c.args.shift
places_is c = rw (round_trip c.ranges.shift) at c.unsigned_abs-places.ensures.value

product_within : (c : Start) → Within (4194304 * 2 ^ 6) (c.args.coefficient *ℤ pos (2 ^ nat_abs c.args.shift))
product_within c = within_mul {b = 2 ^ 6} c.requires.coefficient (within_pos (pow_mono (small c)))

pub overflow_mul-result : goal.overflow_mul-result
overflow_mul-result c =
    rw (round_trip c.ranges.coefficient, places_is (goal.at.overflow_mul-result c).After-unsigned_abs-places, shl_one w32 (nat_abs c.args.shift) (omega (arith, small (goal.at.overflow_mul-result c).Start))) (within_fits tt (product_within (goal.at.overflow_mul-result c).Start))

pub returns-then-shift-lt0 : goal.returns-then-shift-lt0
returns-then-shift-lt0 c =
    rw (round_trip (overflow_mul-result c), round_trip c.ranges.coefficient, places_is (goal.at.returns-then-shift-lt0 c).After-unsigned_abs-places, shl_one w32 (nat_abs c.args.shift) (omega (arith, small (goal.at.returns-then-shift-lt0 c).Start)))
    (ts_residual-left c.args.shift c.args.coefficient (negative c))

-- ---- t ≥ 0
positive : (c : Else-shift-lt0) → pos 0 ≤ℤ c.args.shift
positive c = lt_z_false (rw (round_trip c.ranges.shift) at c.if-shift-lt0.false)

sum_within : (c : Start) → Within (4194304 + 32) (c.args.coefficient +ℤ c.args.add)
sum_within c = within_add c.requires.coefficient (within_eq c.requires.add (ts_add_within c.args.shift c.requires.shift))

pub overflow_add-result : goal.overflow_add-result
overflow_add-result c =
    rw (round_trip c.ranges.coefficient, round_trip c.ranges.add) (within_fits tt (sum_within (goal.at.overflow_add-result c).Start))

residual_is : (c : Else-shift-lt0) → shr_z (c.args.coefficient +ℤ c.args.add) (2 ^ nat_abs c.args.shift) ≡ ts_residual c.args.shift c.args.coefficient
residual_is c =
    rw c.requires.add (ts_residual_right c.args.shift c.args.coefficient (positive c))

pub returns : goal.returns
returns c =
    rw (places_is (goal.at.returns c).After-unsigned_abs-places, round_trip (overflow_add-result c), round_trip c.ranges.coefficient, round_trip c.ranges.add)
    (round_trip {w = w32} (sfits_shr (2 ^ nat_abs c.args.shift) (within_fits tt (sum_within (goal.at.returns c).Start))) ∙ residual_is c)
