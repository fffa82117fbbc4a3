-- `stages_wide::parts::least` meets its contract: 1 << R is 2^R, for R of at most 22.
use mathlib.Core.Path.{◌≡◌}
use Prim.Native.Nat.{◌+◌, ◌*◌, ◌%◌, ◌^◌}
use native.Mathlib.Omega.{arith}
use lib.IntN.{ℤ, pos, neg_ℤ, ◌-ℤ◌}
use lib.Pow.{pow_mono}
use mir.Syntax.{w32}
use mir.Val.{SFits, to_z}
use mir.Facts.{to_z-of_z}
use Rattle.integers.proofs.LinearLaws.{split, ring, diff_ext}
use Rattle.integers.proofs.MachineLaws.{shl_one}
use Rattle.integers.proofs.BoundLaws.{within_add, within_neg, within_pos, within_fits}
use Rattle.h265.specs.Range.{coeff_min}
use Rattle.stages_wide.proofs.parts.least.Goals as goal
use Rattle.stages_wide.proofs.parts.least.Goals.{Start}

zero_sub : (x : ℤ) → pos 0 -ℤ x ≡ neg_ℤ x
zero_sub x = rw (← split x) (simp ring (diff_ext _ _ _ _ (omega arith)))

module _ (c : Start) where
  top : to_z w32 ((1 * 2 ^ c.args.range) % 4294967296) ≡ pos (2 ^ c.args.range)
  top = shl_one w32 c.args.range (omega (arith, c.requires))

  fits : SFits w32 (pos 0 -ℤ pos (2 ^ c.args.range))
  fits = within_fits {b = 0 + 2 ^ 22} tt (within_add {a = 0} (within_pos (omega arith)) (within_neg (within_pos (pow_mono c.requires))))

pub overflow_sub-result : goal.overflow_sub-result
overflow_sub-result c = rw (top c) (fits c)

pub returns : goal.returns
unfolding coeff_min
returns c = rw (top c) (simp (to_z-of_z, fits c) (zero_sub (pos (2 ^ c.args.range))))
