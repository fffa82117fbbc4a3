-- `scaling_values::flat::low_level` meets its contract: nothing wraps, and the quotient is the last whose product stays within the end.
use Prim.Native.Nat.{◌+◌}
use native.Mathlib.Nat.{mul-le-mul_left}
use native.Mathlib.Omega.{arith}
use lib.Pow.{pow_pos}
use Rattle.scaling_values.proofs.flat.low_level.Goals as goal
use Rattle.scaling_values.proofs.flat.low_level.Goals.{Start}

pub overflow_add-most : goal.overflow_add-most
overflow_add-most c = omega (arith, c.requires.small, mul-le-mul_left (c.args.most + 1) (pow_pos c.args.shift))
