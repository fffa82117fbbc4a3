-- `coefficients::is_outside` meets its contract: the ends of the range that is searched are those of the definition.
use mathlib.Core.Path.{◌≡◌, refl}
use mathlib.Core.Bool.{Bool, true, false, not, ◌&&◌, ◌||◌}
use lib.IntN.{ℤ}
use lib.Signed.{lt_z}
use Rattle.std.specs.Ordering.{int_cmp, is_le}
use Rattle.integers.proofs.MachineLaws.{round_trip, lt_z_of_le, lt_z_true}
use Rattle.integers.proofs.OrderLaws.{<ℤ-≤ℤ}
use Rattle.h265.specs.Range.{coeff_min, coeff_max, outside_range}
use Rattle.h265.proofs.RangeLaws.{coeff_min_within, coeff_max_within}
use Rattle.coefficients.proofs.OutsideLaws.{range_fits, low_end, high_end}
use Rattle.coefficients.proofs.is_outside.Goals as goal
use Rattle.coefficients.proofs.is_outside.Goals.{Start}

le_is : (x y : ℤ) → is_le (int_cmp x y) ≡ not (lt_z y x)
le_is x y = by_tests (lt_z x y) (lt_z y x) refl refl
  where
    by_tests : (a b : Bool) → lt_z x y ≡ a → lt_z y x ≡ b → is_le (int_cmp x y) ≡ not (lt_z y x)
    by_tests true b e f = rw (e, lt_z_of_le (<ℤ-≤ℤ (lt_z_true e))) refl
    by_tests false true e f = rw (e, f) refl
    by_tests false false e f = rw (e, f) refl

outside_is : (lo hi x : ℤ) → not (is_le (int_cmp lo x) && is_le (int_cmp x hi)) ≡ lt_z x lo || lt_z hi x
outside_is lo hi x = rw (le_is lo x, le_is x hi) (either (lt_z x lo) (lt_z hi x))
  where
    either : (a b : Bool) → not (not a && not b) ≡ a || b
    either true b = refl
    either false true = refl
    either false false = refl

pub overflow_sub-end : goal.overflow_sub-end
overflow_sub-end c = rw (low_end c.args.range c.requires) (range_fits c.args.range c.requires (coeff_min_within c.args.range))

pub overflow_sub-end-2 : goal.overflow_sub-end-2
overflow_sub-end-2 c = rw (high_end c.args.range c.requires) (range_fits c.args.range c.requires (coeff_max_within c.args.range))

pub returns : goal.returns
unfolding outside_range
returns c =
    rw (
      c.contains.ensures.value,
      c.new.ensures.start,
      c.new.ensures.end,
      c.new.ensures.exhausted,
      round_trip c.ranges.x,
      round_trip (overflow_sub-end (goal.at.returns c).Start),
      low_end c.args.range c.requires,
      round_trip (overflow_sub-end-2 (goal.at.returns c).Start),
      high_end c.args.range c.requires,
    ) (outside_is (coeff_min c.args.range) (coeff_max c.args.range) c.args.x)
