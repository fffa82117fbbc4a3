-- `coefficients::reach` meets its contract: what does not wrap lies in the range, and what does is past it.
use mathlib.Core.Path.{◌≡◌, ap, ◌∙◌}
use Prim.Native.Nat.{ℕ, ◌+◌, ◌*◌, ◌%◌, ◌^◌}
use native.Mathlib.Nat.{mod-lt, mod-eq_of_lt, one-mul}
use native.Mathlib.Omega.{arith}
use lib.Pow.{pow_pos, pow_mono}
use mir.Syntax.{w32}
use mir.Val.{of_z}
use mir.Facts.{of_z-to_z}
use Rattle.coefficients.proofs.OutsideLaws.{reach_inside}
use Rattle.coefficients.proofs.reach.Goals as goal

pub returns : goal.returns
returns c h =
    let r = c.args.range in
    let end : (1 * 2 ^ r) % 4294967296 ≡ 2 ^ r = ap (λ (n : ℕ). n % 4294967296) (one-mul (2 ^ r)) ∙ mod-eq_of_lt (omega (arith, pow_mono {j = 22} c.requires)) in
    let e : c.cast_unsigned.result ≡ (of_z w32 c.args.x + 2 ^ r) % 4294967296 =
    c.cast_unsigned.ensures ∙ of_z-to_z {w = w32} (record { fits = mod-lt (of_z w32 c.args.x + (1 * 2 ^ r) % 4294967296) (pow_pos 32) }) ∙ ap (λ (n : ℕ). (of_z w32 c.args.x + n) % 4294967296) end in
    reach_inside r c.requires c.ranges.x (omega (arith, e, h))
