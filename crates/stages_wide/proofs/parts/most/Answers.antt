-- `stages_wide::parts::most` meets its contract: 1 << R is 2^R, for R of at most 22.
use mathlib.Core.Path.{◌≡◌, refl}
use Prim.Native.Nat.{◌+◌, ◌*◌, ◌%◌, ◌^◌}
use native.Mathlib.Omega.{arith}
use lib.IntN.{pos, ◌-ℤ◌}
use lib.Pow.{pow_mono}
use mir.Syntax.{w32}
use mir.Val.{SFits, to_z}
use mir.Facts.{to_z-of_z}
use Rattle.integers.proofs.MachineLaws.{shl_one}
use Rattle.integers.proofs.BoundLaws.{within_add, within_neg, within_pos, within_fits}
use Rattle.h265.specs.Range.{coeff_max}
use Rattle.stages_wide.proofs.parts.most.Goals as goal
use Rattle.stages_wide.proofs.parts.most.Goals.{Start}

module _ (c : Start) where
  top : to_z w32 ((1 * 2 ^ c.args.range) % 4294967296) ≡ pos (2 ^ c.args.range)
  top = shl_one w32 c.args.range (omega (arith, c.requires))

  fits : SFits w32 (pos (2 ^ c.args.range) -ℤ pos 1)
  fits = within_fits {b = 2 ^ 22 + 1} tt (within_add {b = 1} (within_pos (pow_mono c.requires)) (within_neg (within_pos {b = 1} {k = 1} (omega arith))))

pub overflow_sub-result : goal.overflow_sub-result
overflow_sub-result c = rw (top c) (fits c)

pub returns : goal.returns
unfolding coeff_max
returns c = rw (top c) (simp (to_z-of_z, fits c) refl)
