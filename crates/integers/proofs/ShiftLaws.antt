-- Laws of the right shift, from the one that says what it is.
--   le_shift_right                         a ≤ x >> s exactly when a × 2^s ≤ x
--   shift_right_zero, -mono, -within       no shift; order; size
--   round_shift_mono, -within              the same of the rounding shift
use mathlib.Core.Path.{◌≡◌, ap}
use mathlib.Core.Logic.{◌↔◌}
use Prim.Native.Nat.{ℕ, ◌+◌, ◌-◌, ◌^◌}
use native.Mathlib.Nat.{div-one, le_refl}
use lib.Pow.{pow_pos}
use lib.IntN.{ℤ, pos, negsuc, ◌*ℤ◌}
use lib.Signed.{◌≤ℤ◌, ≤ℤ_refl}
use Rattle.integers.specs.Shift.{pow2, shift_right, round_shift}
use Rattle.integers.specs.Within.{Within}
use Rattle.integers.proofs.OrderLaws.{le_shr_z, shr_z_mono, +ℤ_mono}
use Rattle.integers.proofs.BoundLaws.{within_shr, within_add, within_pos}

pub le_shift_right : (a x : ℤ) (s : ℕ) → ((pow2 s *ℤ a) ≤ℤ x) ↔ (a ≤ℤ shift_right x s)
unfolding shift_right
le_shift_right a x s = le_shr_z a x (2 ^ s) (pow_pos s)

pub shift_right_zero : (x : ℤ) → shift_right x 0 ≡ x
unfolding shift_right
shift_right_zero (pos a) = ap pos (div-one a)
shift_right_zero (negsuc a) = ap negsuc (div-one a)

pub shift_right_mono : {x y : ℤ} (s : ℕ) → x ≤ℤ y → shift_right x s ≤ℤ shift_right y s
unfolding shift_right
shift_right_mono s h = shr_z_mono (2 ^ s) (pow_pos s) h

pub shift_right_within : {b : ℕ} {x : ℤ} (s : ℕ) → Within b x → Within b (shift_right x s)
unfolding shift_right
shift_right_within s f = within_shr (2 ^ s) f

pub round_shift_mono : {x y : ℤ} (s : ℕ) → x ≤ℤ y → round_shift x s ≤ℤ round_shift y s
unfolding round_shift
round_shift_mono s h = shift_right_mono s (+ℤ_mono h (≤ℤ_refl (pow2 (s - 1))))

pub round_shift_within : {b : ℕ} {x : ℤ} (s : ℕ) → Within b x → Within (b + 2 ^ (s - 1)) (round_shift x s)
unfolding round_shift
round_shift_within s f = shift_right_within s (within_add f (within_pos (le_refl (2 ^ (s - 1)))))
