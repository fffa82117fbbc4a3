-- `scaling_values::level::scaled` meets its contract: 64 bits hold the product and the sum, since the level is limited first, and the
-- limited result fits 32; a limit changed a number exactly where it lies outside the range.
use mathlib.Core.Path.{◌≡◌, ◌∙◌, ap}
use borrow.Author.Rules.{sfits_of}
use lib.IntN.{ℤ, ◌*ℤ◌}
use mir.Syntax.{w64}
use Prim.Native.Nat.{◌*◌}
use Rattle.integers.specs.Clip.{clip3}
use Rattle.integers.specs.Within.{Within}
use Rattle.integers.proofs.MachineLaws.{round_trip, sfits_widen_trip}
use Rattle.integers.proofs.BoundLaws.{within_fits, within_eq, within_mul, within_add}
use Rattle.integers.proofs.ClipLaws.{clamp_clips, clip3_within}
use Rattle.scaling_values.specs.Level.{level_by, result_by, outside_by}
use Rattle.scaling_values.proofs.LevelLaws.{manageable_wide, level_by_fits, manageable_ends, moved_outside}
use Rattle.scaling_values.proofs.level.scaled.Goals as goal
use Rattle.scaling_values.proofs.level.scaled.Goals.{After-clamp-near, After-clamp-value, After-shift_right-shifted, After-struct_told-3-1, Start}

pub overflow_cast-given : goal.overflow_cast-given
overflow_cast-given c = sfits_widen_trip c.ranges.level tt

pub clamp-near-requires : goal.clamp-near-requires
clamp-near-requires c = rw (round_trip (manageable_wide (goal.at.clamp-near-requires c).Start.requires.manageable).ends.least, round_trip (manageable_wide (goal.at.clamp-near-requires c).Start.requires.manageable).ends.most) c.requires.manageable.ordered

limited_is : (c : After-clamp-near) → let a = c.args in c.clamp-near.result ≡ clip3 a.by.clip_min a.by.clip_max a.level
limited_is c =
    rw (round_trip (manageable_wide (goal.at.After-clamp-near c).Start.requires.manageable).ends.least, round_trip (manageable_wide (goal.at.After-clamp-near c).Start.requires.manageable).ends.most, round_trip (overflow_cast-given (goal.at.After-clamp-near c).Start), round_trip c.ranges.level) at c.clamp-near.ensures.value
    ∙ clamp_clips c.args.by.clip_min c.args.by.clip_max c.args.level c.requires.manageable.ordered

limited_within : (c : After-clamp-near) → Within 4194304 c.clamp-near.result
limited_within c =
    within_eq (limited_is c) (clip3_within c.args.by.clip_min c.args.by.clip_max c.args.level c.requires.manageable.ordered c.requires.manageable.least c.requires.manageable.most)

product_within : (c : After-clamp-near) → Within (4194304 * 19251855360) (c.clamp-near.result *ℤ c.args.factor)
product_within c = within_mul (limited_within c) c.requires.within

pub overflow_mul-near : goal.overflow_mul-near
overflow_mul-near c =
    rw (round_trip (sfits_of c.clamp-near.type_inv), round_trip c.ranges.factor) (within_fits tt (product_within c))

pub overflow_add-near : goal.overflow_add-near
overflow_add-near c =
    rw (round_trip (overflow_mul-near (goal.at.overflow_add-near c).After-clamp-near), round_trip (sfits_of c.clamp-near.type_inv), round_trip c.ranges.factor, round_trip (manageable_wide (goal.at.overflow_add-near c).Start.requires.manageable).add)
    (within_fits tt (within_add (product_within (goal.at.overflow_add-near c).After-clamp-near) c.requires.manageable.add))

pub clamp-value-requires : goal.clamp-value-requires
clamp-value-requires c =
    rw (round_trip (manageable_wide (goal.at.clamp-value-requires c).Start.requires.manageable).ends.least, round_trip (manageable_wide (goal.at.clamp-value-requires c).Start.requires.manageable).ends.most) c.requires.manageable.ordered

-- the numbers on the way, in the contract's terms
abbrev start : After-clamp-value → Start
start c = (goal.at.After-clamp-value c).Start

shifted_is : (c : After-shift_right-shifted) → let a = c.args in c.shift_right-shifted.result ≡ result_by a.by a.factor a.level
unfolding result_by
shifted_is c =
    rw (
      c.shift_right-shifted.ensures,
      round_trip (overflow_add-near (goal.at.After-shift_right-shifted c).After-struct_told-3-1),
      round_trip (overflow_mul-near (goal.at.After-shift_right-shifted c).After-clamp-near),
      round_trip (sfits_of c.clamp-near.type_inv),
      round_trip c.ranges.factor,
      round_trip (manageable_wide (goal.at.After-shift_right-shifted c).Start.requires.manageable).add,
      limited_is (goal.at.After-shift_right-shifted c).After-clamp-near,
    )

limit_is : (c : After-clamp-value) → let a = c.args in c.clamp-value.result ≡ clip3 a.by.clip_min a.by.clip_max (result_by a.by a.factor a.level)
limit_is c =
    rw (round_trip (manageable_wide (goal.at.After-clamp-value c).Start.requires.manageable).ends.least, round_trip (manageable_wide (goal.at.After-clamp-value c).Start.requires.manageable).ends.most, round_trip (sfits_of c.shift_right-shifted.type_inv)) at c.clamp-value.ensures.value
    ∙ clamp_clips c.args.by.clip_min c.args.by.clip_max c.shift_right-shifted.result c.requires.manageable.ordered
    ∙ ap (λ (z : ℤ). clip3 c.args.by.clip_min c.args.by.clip_max z) (shifted_is (goal.at.After-clamp-value c).After-shift_right-shifted)

result_is : (c : After-clamp-value) → let a = c.args in c.clamp-value.result ≡ level_by a.by a.factor a.level
unfolding level_by result_by
result_is c = limit_is c

pub overflow_cast-result : goal.overflow_cast-result
overflow_cast-result c =
    let s = start c in
    rw (round_trip (sfits_of c.clamp-value.type_inv), result_is c) (level_by_fits s.args.factor s.args.level (manageable_ends s.requires.manageable))

pub returns : goal.returns
unfolding outside_by
returns c =
    let s = start (goal.at.returns c).After-clamp-value in
    let by = s.args.by in
    record {
      value = round_trip (overflow_cast-result (goal.at.returns c).After-clamp-value) ∙ round_trip {w = w64} (sfits_of c.clamp-value.type_inv) ∙ result_is (goal.at.returns c).After-clamp-value;
      before =
          rw (round_trip (overflow_cast-given s), round_trip s.ranges.level, round_trip (sfits_of c.clamp-near.type_inv)) at c.moved.ensures
          ∙ moved_outside by.clip_min by.clip_max s.args.level s.requires.manageable.ordered (limited_is (goal.at.returns c).After-clamp-near);
      after =
          rw (round_trip (sfits_of c.shift_right-shifted.type_inv), round_trip (sfits_of c.clamp-value.type_inv), shifted_is (goal.at.returns c).After-shift_right-shifted) at c.moved-2.ensures
          ∙ moved_outside by.clip_min by.clip_max (result_by by s.args.factor s.args.level) s.requires.manageable.ordered (limit_is (goal.at.returns c).After-clamp-value);
    }
