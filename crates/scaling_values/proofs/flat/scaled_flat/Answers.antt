-- `scaling_values::flat::scaled_flat` meets its contract: each arm is a case of the definition, and between the two levels 32 bits hold the product and the sum.
use mathlib.Core.Path.{◌≡◌}
use Prim.Native.Nat.{◌+◌, ◌^◌}
use native.Mathlib.Omega.{arith}
use lib.IntN.{◌+ℤ◌, ◌*ℤ◌}
use mathlib.Core.Bool.{false}
use lib.Signed.{lt_z, ◌≤ℤ◌}
use mir.Syntax.{w32}
use mir.Val.{SFits}
use Rattle.integers.specs.Shift.{shift_right}
use Rattle.integers.specs.Within.{Within}
use Rattle.integers.proofs.MachineLaws.{round_trip, sfits_shr, lt_z_round_trip, lt_z_false}
use Rattle.integers.proofs.LinearLaws.{le_in}
use Rattle.integers.proofs.BoundLaws.{within_fits, within_le, within_mul, within_add, within_out, within_in}
use Rattle.scaling_values.specs.Flat.{short_level, short_limited}
use Rattle.scaling_values.proofs.FlatLaws.{short_numbers}
use Rattle.scaling_values.proofs.flat.scaled_flat.Goals as goal
use Rattle.scaling_values.proofs.flat.scaled_flat.Goals.{After-struct_told-3-1, After-struct_told-4-1, Else-by-level, Start}

under_fits : (c : Start) → SFits w32 c.args.by.under
under_fits c = within_fits tt c.requires.under

over_fits : (c : Start) → SFits w32 c.args.by.over
over_fits c = within_fits tt c.requires.over

pub returns-then-level-by : goal.returns-then-level-by
unfolding short_level short_limited
returns-then-level-by c =
    let below = lt_z_round_trip c.ranges.level (short_numbers (goal.at.returns-then-level-by c).Start.requires).low c.if-level-by.true in
    record { value = rw (round_trip (under_fits (goal.at.returns-then-level-by c).Start), below); limited = rw below; fits = rw (round_trip (under_fits (goal.at.returns-then-level-by c).Start)) (under_fits (goal.at.returns-then-level-by c).Start) }

pub returns-then-by-level : goal.returns-then-by-level
unfolding short_level short_limited
returns-then-by-level c =
    let below = lt_z_round_trip c.ranges.level (short_numbers (goal.at.returns-then-by-level c).Start.requires).low c.if-level-by.false in
    let above = lt_z_round_trip (short_numbers (goal.at.returns-then-by-level c).Start.requires).top c.ranges.level c.if-by-level.true in
    record { value = rw (round_trip (over_fits (goal.at.returns-then-by-level c).Start), below, above); limited = rw (below, above); fits = rw (round_trip (over_fits (goal.at.returns-then-by-level c).Start)) (over_fits (goal.at.returns-then-by-level c).Start) }

-- between the two levels
abbrev start : Else-by-level → Start
start c = (goal.at.Else-by-level c).Start

not_below : (c : Else-by-level) → lt_z (start c).args.level (start c).args.by.low ≡ false
not_below c = lt_z_round_trip (start c).ranges.level (short_numbers (start c).requires).low c.if-level-by.false

not_above : (c : Else-by-level) → lt_z (start c).args.by.top (start c).args.level ≡ false
not_above c = lt_z_round_trip (short_numbers (start c).requires).top (start c).ranges.level c.if-by-level.false

level_within : (c : Else-by-level) → Within (start c).requires.size (start c).args.level
level_within c =
    let a : (start c).args.by.low ≤ℤ (start c).args.level = lt_z_false (not_below c) in
    let b : (start c).args.level ≤ℤ (start c).args.by.top = lt_z_false (not_above c) in
    within_out (start c).args.level
    (omega (arith, le_in a, le_in b, within_in (start c).requires.low, within_in (start c).requires.top))

product_within : (c : Else-by-level) → Within 1073741824 ((start c).args.level *ℤ (start c).args.by.base)
product_within c = within_le (start c).requires.products (within_mul (level_within c) (start c).requires.base)

sum_within : (c : Else-by-level) → Within (1073741824 + 32768) ((start c).args.level *ℤ (start c).args.by.base +ℤ (start c).args.by.add)
sum_within c = within_add (product_within c) (start c).requires.add

pub overflow_mul-result : goal.overflow_mul-result
overflow_mul-result c =
    rw (round_trip (start (goal.at.overflow_mul-result c).Else-by-level).ranges.level, round_trip (short_numbers (start (goal.at.overflow_mul-result c).Else-by-level).requires).base) (within_fits tt (product_within (goal.at.overflow_mul-result c).Else-by-level))

pub overflow_add-result : goal.overflow_add-result
overflow_add-result c =
    rw (round_trip (overflow_mul-result (goal.at.overflow_add-result c).After-struct_told-3-1), round_trip (start (goal.at.overflow_add-result c).Else-by-level).ranges.level, round_trip (short_numbers (start (goal.at.overflow_add-result c).Else-by-level).requires).base, round_trip (short_numbers (start (goal.at.overflow_add-result c).Else-by-level).requires).add) (within_fits tt (sum_within (goal.at.overflow_add-result c).Else-by-level))

pub returns : goal.returns
unfolding short_level short_limited shift_right
returns c =
    let s = start (goal.at.returns c).Else-by-level in
    record {
      value =
          rw (
            round_trip (overflow_add-result (goal.at.returns c).After-struct_told-4-1),
            round_trip (overflow_mul-result (goal.at.returns c).After-struct_told-3-1),
            round_trip s.ranges.level,
            round_trip (short_numbers s.requires).base,
            round_trip (short_numbers s.requires).add,
            round_trip (sfits_shr (2 ^ s.args.by.shift) (within_fits {w = w32} tt (sum_within (goal.at.returns c).Else-by-level))),
            not_below (goal.at.returns c).Else-by-level,
            not_above (goal.at.returns c).Else-by-level,
          );
      limited = rw (not_below (goal.at.returns c).Else-by-level, not_above (goal.at.returns c).Else-by-level);
      fits =
          let shifted = sfits_shr (2 ^ s.args.by.shift) (within_fits {w = w32} tt (sum_within (goal.at.returns c).Else-by-level)) in
          rw (
            round_trip (overflow_add-result (goal.at.returns c).After-struct_told-4-1),
            round_trip (overflow_mul-result (goal.at.returns c).After-struct_told-3-1),
            round_trip s.ranges.level,
            round_trip (short_numbers s.requires).base,
            round_trip (short_numbers s.requires).add,
            round_trip shifted,
          ) shifted;
    }
