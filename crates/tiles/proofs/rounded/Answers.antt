-- `tiles::rounded` meets its contract: half the divisor is at most 2^11, so that the sum fits 32 bits.
use mathlib.Core.Path.{◌≡◌, ◌∙◌, subst}
use Prim.Native.Nat.{◌+◌, ◌*◌, ◌^◌, ◌-◌}
use lib.IntN.{ℤ, ◌+ℤ◌}
use mir.Syntax.{w32}
use mir.Val.{of_z, to_z, SFits}
use mir.Facts.{to_z-of_z}
use borrow.Author.Rules.{sfits_of}
use Rattle.integers.specs.Shift.{pow2, shift_right, round_shift}
use Rattle.integers.specs.Within.{Within}
use Rattle.integers.proofs.MachineLaws.{sfits_shr}
use Rattle.integers.proofs.BoundLaws.{within_add, within_fits}
use Rattle.tiles.proofs.rounded.Goals as goal

pub returns : goal.returns
unfolding round_shift shift_right
returns c =
    let h : to_z w32 (of_z w32 c.half.result) ≡ pow2 (c.args.s - 1) = to_z-of_z {w = w32} (sfits_of c.half.type_inv) ∙ c.half.ensures.0 in
    let sum : SFits w32 (c.args.x +ℤ pow2 (c.args.s - 1)) =
    within_fits {b = 480 * 2 ^ 22 + 2 ^ 11} tt (within_add c.requires.0 (subst (λ (z : ℤ). Within (2 ^ 11) z) c.half.ensures.0 c.half.ensures.1)) in
    rw h (simp (to_z-of_z, c.ranges.x, sum, sfits_shr {z = c.args.x +ℤ pow2 (c.args.s - 1)} (2 ^ c.args.s) sum))
