-- `tiles::half` meets its contract: half the divisor is a power of two below 2^12.
use mathlib.Core.Path.{◌≡◌, refl, ap, ◌∙◌}
use Prim.Native.Nat.{ℕ, ◌*◌, ◌^◌, ◌<◌, ◌-◌, ◌%◌}
use native.Mathlib.Nat.{mod-eq_of_lt, one-mul, lt_trans}
use native.Mathlib.Omega.{arith}
use lib.Dec.{lit<}
use lib.IntN.{pos}
use lib.Pow.{pow-lt, pow_mono}
use mir.Syntax.{w32}
use mir.Val.{to_z}
use mir.Facts.{to_z-of_z}
use Rattle.integers.proofs.BoundLaws.{within_pos}
use Rattle.tiles.proofs.half.Goals as goal
use Rattle.tiles.proofs.half.Goals.{Start}

module _ (c : Start) where
  half_small : 2 ^ (c.args.s - 1) < 2 ^ 12
  half_small = pow-lt {j = 12} (omega arith)

  half_is : 1 * 2 ^ (c.args.s - 1) % 2 ^ 32 ≡ 2 ^ (c.args.s - 1)
  half_is = ap (λ (n : ℕ). n % 2 ^ 32) (one-mul (2 ^ (c.args.s - 1))) ∙ mod-eq_of_lt (lt_trans half_small (lit< tt))

  half_reads : to_z w32 (1 * 2 ^ (c.args.s - 1) % 2 ^ 32) ≡ pos (2 ^ (c.args.s - 1))
  half_reads = ap (to_z w32) half_is ∙ to_z-of_z {w = w32} {z = pos (2 ^ (c.args.s - 1))} (record { sfits = omega (arith, half_small) })

pub returns : goal.returns
returns c = rw (half_reads c) (refl, within_pos (pow_mono {j = 11} (omega arith)))
