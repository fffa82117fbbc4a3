-- `scaling_values::level::scaled_listed` meets its contract: the sixteenth of the block's factor times m is the one that the definition names.
use mathlib.Core.Path.{◌≡◌}
use Prim.Native.Nat.{◌*◌}
use native.Mathlib.Omega.{arith}
use borrow.Author.Rules.{sfits_of}
use lib.IntN.{pos, ◌*ℤ◌}
use mir.Syntax.{w64}
use mir.Val.{to_z}
use mir.Facts.{to_z_pos}
use Rattle.integers.specs.Shift.{shift_right}
use Rattle.integers.specs.Within.{Within}
use Rattle.integers.proofs.MachineLaws.{round_trip}
use Rattle.integers.proofs.BoundLaws.{within_fits, within_eq, within_mul, within_pos}
use Rattle.integers.proofs.ShiftLaws.{shift_right_within}
use Rattle.scaling_values.specs.Level.{listed_level, listed_result}
use Rattle.scaling_values.proofs.LevelLaws.{manageable_wide}
use Rattle.scaling_values.proofs.level.scaled_listed.Goals as goal
use Rattle.scaling_values.proofs.level.scaled_listed.Goals.{After-shift_right, Start}

m_is : (c : Start) → to_z w64 c.args.m ≡ pos c.args.m
m_is c = to_z_pos w64 (omega arith)

base_is : (c : After-shift_right) → c.shift_right.result ≡ shift_right c.args.by.factor 4
base_is c = rw (round_trip (manageable_wide (goal.at.After-shift_right c).Start.requires).factor) at c.shift_right.ensures

product_within : (c : After-shift_right) → Within (75497472 * 255) (c.shift_right.result *ℤ pos c.args.m)
product_within c =
    within_mul {b = 255} (within_eq (base_is c) (shift_right_within 4 c.requires.factor)) (within_pos (omega arith))

pub overflow_mul-shift_right : goal.overflow_mul-shift_right
overflow_mul-shift_right c = rw (round_trip (sfits_of c.shift_right.type_inv), m_is (goal.at.overflow_mul-shift_right c).Start) (within_fits tt (product_within c))

pub scaled-requires : goal.scaled-requires
scaled-requires c =
    record { manageable = c.requires; within = rw (round_trip (overflow_mul-shift_right c), round_trip (sfits_of c.shift_right.type_inv), m_is (goal.at.scaled-requires c).Start) (product_within c) }

pub returns : goal.returns
unfolding listed_level listed_result
returns c =
    let numbers = rw (round_trip (overflow_mul-shift_right (goal.at.returns c).After-shift_right), round_trip (sfits_of c.shift_right.type_inv), m_is (goal.at.returns c).Start, round_trip c.ranges.level, base_is (goal.at.returns c).After-shift_right) at c.scaled.ensures in
    record { value = numbers.value; before = numbers.before; after = numbers.after }
