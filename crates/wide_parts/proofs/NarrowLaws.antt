-- Values that fit 16 bits.
--   clip_coeff_narrow       16 bits are inside every range
use mathlib.Core.Path.{◌≡◌}
use Prim.Native.Nat.{ℕ, ◌^◌, ◌≤◌, ◌<◌}
use native.Mathlib.Omega.{arith}
use lib.IntN.{ℤ, pos, neg_ℤ, ◌-ℤ◌}
use lib.Pow.{pow_mono}
use mir.Syntax.{w16}
use mir.Val.{SFits}
use Rattle.integers.proofs.LinearLaws.{pos_part, neg_part, parts_add, parts_neg, le_out}
use Rattle.integers.proofs.MachineLaws.{sfits_pos_part, sfits_neg_part}
use Rattle.h265.specs.Range.{clip_coeff, coeff_min, coeff_max}
use Rattle.h265.proofs.RangeLaws.{clip_coeff_id}

pub clip_coeff_narrow : {r : ℕ} {x : ℤ} → 15 ≤ r → SFits w16 x → clip_coeff r x ≡ x
unfolding coeff_min coeff_max
clip_coeff_narrow {r} {x} h f =
    let p : pos_part x < 32768 = sfits_pos_part f in
    let q : neg_part x ≤ 32768 = sfits_neg_part f in
    let m : 32768 ≤ 2 ^ r = pow_mono {i = 15} {j = r} h in
    clip_coeff_id r x (le_out (neg_ℤ (pos (2 ^ r))) x (omega (arith, parts_neg (pos (2 ^ r)))))
    (le_out x (pos (2 ^ r) -ℤ pos 1) (omega (arith, parts_add (pos (2 ^ r)) (neg_ℤ (pos 1)))))
