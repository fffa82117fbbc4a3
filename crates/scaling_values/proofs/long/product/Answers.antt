-- `scaling_values::long::product` meets its contract: every part fits, and the two are those of the product.
use mathlib.Core.Path.{◌≡◌, sym, subst, ◌∙◌}
use Prim.Native.Nat.{◌+◌, ◌*◌}
use native.Mathlib.Omega.{arith}
use borrow.Author.Rules.{sfits_of}
use lib.IntN.{ℤ, ◌+ℤ◌, ◌*ℤ◌}
use lib.Signed.{shr_z}
use mir.Facts.{sfits_widen}
use mir.Syntax.{w16, w32}
use mir.Val.{SFits}
use Rattle.integers.specs.Shift.{shift_right}
use Rattle.integers.specs.Within.{Within}
use Rattle.integers.proofs.LinearLaws.{le_in}
use Rattle.integers.proofs.MachineLaws.{round_trip}
use Rattle.integers.proofs.BoundLaws.{within_fits, within_eq, within_le, within_out, within_shr, within_mul, within_add, within_sfits}
use Rattle.scaling_values.specs.Long.{rest_of}
use Rattle.scaling_values.proofs.LongLaws.{rest_low, rest_high, over_parts, rest_parts, near_within, near_high}
use Rattle.scaling_values.proofs.long.product.Goals as goal
use Rattle.scaling_values.proofs.long.product.Goals.{After-rest_of, Start}

-- the level's first part, and what it has beside it
first_fits : (s : Start) → SFits w16 (shr_z s.args.near 128)
unfolding shift_right
first_fits s = near_high s.requires.near

first_wide : (s : Start) → SFits w32 (shr_z s.args.near 128)
first_wide s = sfits_widen tt (first_fits s)

rest_is : (c : After-rest_of) → c.rest_of.result ≡ rest_of c.args.near
rest_is c = rw (round_trip c.ranges.near) at c.rest_of.ensures

rest_fits : (c : After-rest_of) → SFits w32 c.rest_of.result
rest_fits c = sfits_of c.rest_of.type_inv

rest_within : (c : After-rest_of) → Within 127 c.rest_of.result
rest_within c =
    let near = c.args.near in
    within_eq (rest_is c) (within_out (rest_of near) (omega (arith, le_in (rest_low near), le_in (rest_high near))))

-- sizes
low_within : (c : After-rest_of) → Within (127 * 16065) (c.rest_of.result *ℤ c.args.factor)
low_within c = within_mul (rest_within c) c.requires.within

sum_within : (c : After-rest_of) → Within (127 * 16065 + 32768) (c.rest_of.result *ℤ c.args.factor +ℤ c.args.add)
sum_within c = within_add (low_within c) c.requires.within_2

carry_within : (c : After-rest_of) → Within (127 * 16065 + 32768) (shr_z (c.rest_of.result *ℤ c.args.factor +ℤ c.args.add) 128)
carry_within c = within_shr 128 (sum_within c)

carry_fits : (c : After-rest_of) → SFits w32 (shr_z (c.rest_of.result *ℤ c.args.factor +ℤ c.args.add) 128)
carry_fits c = within_fits tt (carry_within c)

high_within : (s : Start) → Within (32768 * 16065) (shr_z s.args.near 128 *ℤ s.args.factor)
high_within s = within_mul {a = 32768} (within_sfits (first_fits s)) s.requires.within

pub rest_of-requires : goal.rest_of-requires
rest_of-requires c = rw (round_trip c.ranges.near) (within_le (omega arith) (near_within c.requires.near))

pub overflow_mul-sum : goal.overflow_mul-sum
overflow_mul-sum c = rw (round_trip (rest_fits c), round_trip c.ranges.factor) (within_fits tt (low_within c))

pub overflow_add-sum : goal.overflow_add-sum
overflow_add-sum c =
    rw (round_trip (overflow_mul-sum c), round_trip (rest_fits c), round_trip c.ranges.factor, round_trip c.ranges.add) (within_fits tt (sum_within c))

pub overflow_mul-result : goal.overflow_mul-result
overflow_mul-result c =
    rw (round_trip c.ranges.near, round_trip (first_wide (goal.at.overflow_mul-result c).Start), round_trip (first_fits (goal.at.overflow_mul-result c).Start), round_trip (first_wide (goal.at.overflow_mul-result c).Start), round_trip c.ranges.factor)
    (within_fits tt (high_within (goal.at.overflow_mul-result c).Start))

pub overflow_add-result : goal.overflow_add-result
overflow_add-result c =
    rw (
      round_trip (overflow_mul-result c),
      round_trip (overflow_add-sum c),
      round_trip (overflow_mul-sum c),
      round_trip c.ranges.near,
      round_trip (first_wide (goal.at.overflow_add-result c).Start),
      round_trip (first_fits (goal.at.overflow_add-result c).Start),
      round_trip (first_wide (goal.at.overflow_add-result c).Start),
      round_trip (rest_fits c),
      round_trip c.ranges.factor,
      round_trip c.ranges.add,
      round_trip (carry_fits c),
    )
    (within_fits tt (within_add (high_within (goal.at.overflow_add-result c).Start) (carry_within c)))

pub rest_of-requires-2 : goal.rest_of-requires-2
rest_of-requires-2 c =
    rw (round_trip (overflow_add-sum c), round_trip (overflow_mul-sum c), round_trip (rest_fits c), round_trip c.ranges.factor, round_trip c.ranges.add)
    (within_le (omega arith) (sum_within c))

pub returns : goal.returns
unfolding shift_right
returns c =
    let a = c.args in
    record {
      over =
          rw (
            round_trip (overflow_add-result (goal.at.returns c).After-rest_of),
            round_trip (overflow_mul-result (goal.at.returns c).After-rest_of),
            round_trip (overflow_add-sum (goal.at.returns c).After-rest_of),
            round_trip (overflow_mul-sum (goal.at.returns c).After-rest_of),
            round_trip c.ranges.near,
            round_trip (first_wide (goal.at.returns c).Start),
            round_trip (first_fits (goal.at.returns c).Start),
            round_trip (first_wide (goal.at.returns c).Start),
            round_trip (rest_fits (goal.at.returns c).After-rest_of),
            round_trip c.ranges.factor,
            round_trip c.ranges.add,
            round_trip (carry_fits (goal.at.returns c).After-rest_of),
            rest_is (goal.at.returns c).After-rest_of,
          )
          (sym (over_parts a.near a.factor a.add));
      rest =
          round_trip {w = w32} (sfits_of c.rest_of-2.type_inv)
          ∙ (rw (round_trip (overflow_add-sum (goal.at.returns c).After-rest_of), round_trip (overflow_mul-sum (goal.at.returns c).After-rest_of), round_trip (rest_fits (goal.at.returns c).After-rest_of), round_trip c.ranges.factor, round_trip c.ranges.add, rest_is (goal.at.returns c).After-rest_of) at c.rest_of-2.ensures)
          ∙ sym (rest_parts a.near a.factor a.add);
      fits = subst (λ (z : ℤ). SFits w32 z) (sym (round_trip (overflow_add-result (goal.at.returns c).After-rest_of))) (overflow_add-result (goal.at.returns c).After-rest_of);
    }
