-- `scaling_values::long::rest_of` meets its contract: 32 bits hold the multiple of 128 and what is left.
use Prim.Native.Nat.{◌+◌, ◌*◌}
use lib.IntN.{pos, ◌-ℤ◌, ◌*ℤ◌}
use lib.Signed.{shr_z}
use mir.Syntax.{w32}
use mir.Val.{SFits}
use Rattle.integers.specs.Shift.{shift_right}
use Rattle.integers.specs.Within.{Within}
use Rattle.integers.proofs.MachineLaws.{round_trip}
use Rattle.integers.proofs.BoundLaws.{within_fits, within_shr, within_mul, within_add, within_neg, within_pos}
use Rattle.scaling_values.specs.Long.{rest_of}
use native.Mathlib.Omega.{arith}
use Rattle.scaling_values.proofs.long.rest_of.Goals as goal
use Rattle.scaling_values.proofs.long.rest_of.Goals.{Start}

over_within : (c : Start) → Within 8388608 (shr_z c.args.x 128)
over_within c = within_shr 128 c.requires

over_fits : (c : Start) → SFits w32 (shr_z c.args.x 128)
over_fits c = within_fits tt (over_within c)

product_within : (c : Start) → Within (8388608 * 128) (shr_z c.args.x 128 *ℤ pos 128)
product_within c = within_mul {b = 128} (over_within c) (within_pos (omega arith))

rest_within : (c : Start) → Within (8388608 + 8388608 * 128) (c.args.x -ℤ shr_z c.args.x 128 *ℤ pos 128)
rest_within c = within_add c.requires (within_neg (product_within c))

pub overflow_mul-result : goal.overflow_mul-result
overflow_mul-result c = rw (round_trip c.ranges.x, round_trip (over_fits c)) (within_fits tt (product_within c))

pub overflow_sub-result : goal.overflow_sub-result
overflow_sub-result c =
    rw (round_trip (overflow_mul-result c), round_trip c.ranges.x, round_trip (over_fits c)) (within_fits tt (rest_within c))

pub returns : goal.returns
unfolding rest_of shift_right
returns c =
    rw (round_trip (overflow_sub-result c), round_trip (overflow_mul-result c), round_trip c.ranges.x, round_trip (over_fits c))
