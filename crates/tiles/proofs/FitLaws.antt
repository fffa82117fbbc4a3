-- Which sums of a line fit once they are shifted: the laws of both widths.
--   round_shift_fits    16 bits hold a sum of at most 1862 × 2^15, shifted by 11 or 12
--   clip_fits           what fits 16 bits is not changed by the limit
--   read_as_they_are, read_unlimited   so no such number is limited as it is read
--   sums_as_they_are    in 32 bits no sum is limited
--   sums_unlimited      and in 16 none after such a shift
use mathlib.Core.Path.{◌≡◌, refl}
use Prim.Native.Nat.{ℕ, ◌+◌, ◌≤◌}
use native.Mathlib.Nat.{mul-le-mul_right, mul-suc}
use native.Mathlib.Decide.{ℕ_discrete}
use native.Mathlib.Omega.{arith}
use lib.IntN.{ℤ, pos, negsuc, ◌+ℤ◌}
use lib.Signed.{shr_z, ◌≤ℤ◌}
use mir.Syntax.{w16}
use mir.Val.{SFits}
use Rattle.integers.specs.Shift.{shift_right, round_shift}
use Rattle.integers.specs.Within.{Within}
use Rattle.integers.proofs.LinearLaws.{pos_part, neg_part, parts_add_le, le_out}
use Rattle.integers.proofs.MachineLaws.{lt_z_of_le}
use Rattle.integers.proofs.OrderLaws.{Floor, shr_floor}
use Rattle.integers.proofs.BoundLaws.{within_in}
use Rattle.h265.specs.Range.{clip_coeff}
use Rattle.tiles.proofs.LimitLaws.{clip_inside}

floor_fits : (x : ℤ) (m : ℕ) → 2048 ≤ m → pos_part x + neg_part x ≤ 61016064 → (q : ℤ) → Floor x m q → SFits w16 q
floor_fits x m h l (pos a) f = record { sfits = omega (arith, mul-le-mul_right a h) }
floor_fits x m h l (negsuc a) f = record { sfits = omega (arith, mul-le-mul_right a h, mul-suc m a) }

pub round_shift_fits : (s : ℕ) (x : ℤ) → 11 ≤ s → s ≤ 12 → Within 61014016 x → SFits w16 (round_shift x s)
unfolding round_shift shift_right
round_shift_fits s x h l w =
    elim (ℕ_discrete s 11) [
      | yes e ↦ rw e (floor_fits (x +ℤ pos 1024) 2048 (omega arith) (omega (arith, within_in w, parts_add_le x (pos 1024))) (shr_z (x +ℤ pos 1024) 2048) (shr_floor (x +ℤ pos 1024) 2048 (omega arith)))
      | no d ↦ rw (let e : s ≡ 12 = omega arith in e) (floor_fits (x +ℤ pos 2048) 4096 (omega arith) (omega (arith, within_in w, parts_add_le x (pos 2048))) (shr_z (x +ℤ pos 2048) 4096) (shr_floor (x +ℤ pos 2048) 4096 (omega arith)))
    ]

pub clip_fits : {z : ℤ} → SFits w16 z → clip_coeff 15 z ≡ z
clip_fits {z} f = clip_inside z (lt_z_of_le (above z f)) (lt_z_of_le (below z f))
  where
    above : (z : ℤ) → SFits w16 z → z ≤ℤ pos 32767
    above (pos n) f = le_out (pos n) (pos 32767) (omega (arith, f.sfits))
    above (negsuc n) f = le_out (negsuc n) (pos 32767) (omega arith)

    below : (z : ℤ) → SFits w16 z → negsuc 32767 ≤ℤ z
    below (pos n) f = le_out (negsuc 32767) (pos n) (omega arith)
    below (negsuc n) f = le_out (negsuc 32767) (negsuc n) (omega (arith, f.sfits))

-- the laws of the two widths
pub read_as_they_are : (x : ℤ) → SFits w16 x → x ≡ x
read_as_they_are x f = refl

pub read_unlimited : (x : ℤ) → SFits w16 x → clip_coeff 15 x ≡ x
read_unlimited x f = clip_fits f

pub sums_as_they_are : (s : ℕ) (x : ℤ) → 0 ≤ s → s ≤ 12 → Within 61014016 x → round_shift x s ≡ round_shift x s
sums_as_they_are s x a b w = refl

pub sums_unlimited : (s : ℕ) (x : ℤ) → 11 ≤ s → s ≤ 12 → Within 61014016 x → clip_coeff 15 (round_shift x s) ≡ round_shift x s
sums_unlimited s x h l w = clip_fits (round_shift_fits s x h l w)
