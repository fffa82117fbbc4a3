-- `edit_values::mac` meets its contract: 64 bits hold the product and the sum.
use mathlib.Core.Path.{refl}
use lib.IntN.{◌+ℤ◌, ◌*ℤ◌}
use Prim.Native.Nat.{◌*◌}
use Rattle.integers.specs.Within.{Within}
use Rattle.integers.proofs.MachineLaws.{round_trip}
use Rattle.integers.proofs.BoundLaws.{within_add, within_mul, within_fits}
use Rattle.edit_values.proofs.mac.Goals as goal
use Rattle.edit_values.proofs.mac.Goals.{Start}

product_within : (c : Start) → Within (90 * 12582912) (c.args.u *ℤ c.args.v)
product_within c = within_mul c.requires.1 c.requires.2

sum_within : (c : Start) → Within 18312331264 (c.args.a +ℤ c.args.u *ℤ c.args.v)
sum_within c = within_add c.requires.0 (product_within c)

pub overflow_mul-result : goal.overflow_mul-result
overflow_mul-result c = rw (round_trip c.ranges.u, round_trip c.ranges.v) (within_fits tt (product_within c))

pub overflow_add-result : goal.overflow_add-result
overflow_add-result c = rw (round_trip (overflow_mul-result c), round_trip c.ranges.u, round_trip c.ranges.v, round_trip c.ranges.a) (within_fits tt (sum_within c))

pub returns : goal.returns
returns c =
    rw (round_trip (overflow_add-result c), round_trip (overflow_mul-result c), round_trip c.ranges.u, round_trip c.ranges.v, round_trip c.ranges.a)
    (refl, sum_within c)
