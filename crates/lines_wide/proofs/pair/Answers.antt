-- `lines_wide::pair` meets its contract: an entry of at most 90 and a value of at most 2^22 make a product of at most 90 × 2^22, so both
-- products and their sum fit 32 bits.
use mathlib.Core.Path.{refl}
use Prim.Native.Nat.{◌+◌, ◌*◌, ◌^◌}
use native.Mathlib.Nat.{le_refl}
use native.Mathlib.Omega.{arith}
use lib.IntN.{ℤ, nat_abs, ◌*ℤ◌, ◌+ℤ◌}
use mir.Syntax.{w32}
use mir.Val.{SFits}
use mir.Facts.{to_z-of_z}
use Rattle.integers.specs.Within.{Within}
use Rattle.integers.proofs.BoundLaws.{within_add, within_mul, within_le, within_fits}
use Rattle.lines_wide.specs.Values.{Term}
use Rattle.lines_wide.proofs.pair.Goals as goal
use Rattle.lines_wide.proofs.pair.Goals.{Start}

product_fits : {u x : ℤ} → Term u x → SFits w32 (u *ℤ x)
product_fits f = within_fits {b = 90 * 2 ^ 22} tt (within_mul f.entry f.value)

product_within : {u x : ℤ} → Term u x → Within (nat_abs u * 2 ^ 22) (u *ℤ x)
product_within {u} f = let g : Within (nat_abs u) u = record { within = le_refl (nat_abs u) } in within_mul g f.value

module _ (c : Start) where
  sum_fits : SFits w32 (c.args.u *ℤ c.args.x +ℤ c.args.v *ℤ c.args.y)
  sum_fits =
      within_fits {b = 180 * 2 ^ 22} tt
      (within_add (within_mul c.requires.0.entry c.requires.0.value) (within_mul c.requires.1.entry c.requires.1.value))

  sum_within : Within ((nat_abs c.args.u + nat_abs c.args.v) * 2 ^ 22) (c.args.u *ℤ c.args.x +ℤ c.args.v *ℤ c.args.y)
  sum_within = within_le (omega arith) (within_add (product_within c.requires.0) (product_within c.requires.1))

pub overflow_add-result : goal.overflow_add-result
overflow_add-result c =
    simp (to_z-of_z, c.ranges.u, c.ranges.x, c.ranges.v, c.ranges.y, product_fits c.requires.0, product_fits c.requires.1) (sum_fits c)

pub returns : goal.returns
returns c =
    simp (to_z-of_z, c.ranges.u, c.ranges.x, c.ranges.v, c.ranges.y, product_fits c.requires.0, product_fits c.requires.1, sum_fits c)
    (refl, sum_within c)
