-- Scaling keeps the order, and 0 scales to 0.
--   round_shift_zero     the rounding of a shift is less than one step
--   clip_coeff_mono      the limit to the range keeps the order
--   scaled_value_mono    before the limit: over m, factor and shift
--   scale_level_scales   one level, for every m, QP' and range
--   scales_cong         of what agrees with it
use mathlib.Core.Path.{◌≡◌, ap, ◌∙◌}
use Prim.Native.Nat.{ℕ, ◌-◌, ◌≤◌}
use native.Mathlib.Nat.{div-eq_of_lt}
use native.Mathlib.Omega.{arith}
use lib.Pow.{pow-lt}
use lib.IntN.{ℤ, pos, ◌*ℤ◌, *ℤ_comm, zero-*ℤ}
use lib.Signed.{◌≤ℤ◌}
use Rattle.integers.specs.Shift.{shift_right, round_shift}
use Rattle.integers.proofs.OrderLaws.{*ℤ_mono}
use Rattle.integers.proofs.ShiftLaws.{round_shift_mono}
use Rattle.integers.proofs.ClipLaws.{clip3_mono}
use Rattle.h265.specs.Range.{clip_coeff}
use Rattle.h265.specs.Quantization.{scale_of_qp}
use Rattle.h265.specs.Scaling.{scaled_value, scale_level}
use Rattle.h265.proofs.RangeLaws.{coeff_min-≤-coeff_max, clip_coeff_id, outside_range_false}
use Rattle.least_level.specs.Level.{Scales}
use Rattle.least_level.proofs.LevelLaws.{zero_inside}

pub round_shift_zero : (s : ℕ) → 1 ≤ s → round_shift (pos 0) s ≡ pos 0
unfolding round_shift shift_right
round_shift_zero s h = ap pos (div-eq_of_lt (omega (arith, pow-lt {i = s - 1} {j = s} (omega arith))))

pub clip_coeff_mono : (r : ℕ) {u v : ℤ} → u ≤ℤ v → clip_coeff r u ≤ℤ clip_coeff r v
unfolding clip_coeff
clip_coeff_mono r h = clip3_mono _ _ (coeff_min-≤-coeff_max r) h

times_mono : {u v : ℤ} (k : ℕ) → u ≤ℤ v → (u *ℤ pos k) ≤ℤ (v *ℤ pos k)
times_mono {u} {v} k h = rw (*ℤ_comm u (pos k), *ℤ_comm v (pos k)) (*ℤ_mono k h)

pub scaled_value_mono : (s q m : ℕ) {u v : ℤ} → u ≤ℤ v → scaled_value s q m u ≤ℤ scaled_value s q m v
unfolding scaled_value
scaled_value_mono s q m h = round_shift_mono s (times_mono (scale_of_qp q) (times_mono m h))

scaled_value_zero : (s q m : ℕ) → 1 ≤ s → scaled_value s q m (pos 0) ≡ pos 0
unfolding scaled_value
scaled_value_zero s q m h =
    ap (λ (z : ℤ). round_shift (z *ℤ pos (scale_of_qp q)) s) (zero-*ℤ (pos m))
    ∙ ap (λ (z : ℤ). round_shift z s) (zero-*ℤ (pos (scale_of_qp q))) ∙ round_shift_zero s h

pub scale_level_scales : (r s q m : ℕ) → 1 ≤ s → Scales (scale_level r s q m)
unfolding scale_level
scale_level_scales r s q m h =
    let i = outside_range_false r (pos 0) (zero_inside r) in
    let z : clip_coeff r (pos 0) ≡ pos 0 = clip_coeff_id r (pos 0) i.0 i.1 in
    record {
      mono = λ u v k. clip_coeff_mono r (scaled_value_mono s q m (clip_coeff_mono r k));
      zero = rw (z, scaled_value_zero s q m h) z;
    }

pub scales_cong : {f g : ℤ → ℤ} → ((v : ℤ) → f v ≡ g v) → Scales g → Scales f
scales_cong {f} {g} e s =
    record { mono = λ u v h. rw (e u, e v) (s.mono u v h); zero = e (pos 0) ∙ s.zero }
