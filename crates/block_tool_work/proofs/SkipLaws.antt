-- How large a residual of transform skip can be.
--   ts_residual_half       at most half of its coefficient's bound where t > 0
--   skipped_at_within      at most 2^21 in every block: at most 2^15 × 2^6 where t ≤ 0, as then R = 15, and at most 2^(R - 1) where t > 0
use mathlib.Core.Path.{◌≡◌, refl, sym, ap, subst}
use mathlib.Core.Bool.{Bool, true, false}
use mathlib.Core.List.{List}
use Prim.Native.Nat.{ℕ, zero, suc, ◌+◌, ◌-◌, ◌*◌, ◌^◌, ◌≤◌, ◌<◌}
use native.Mathlib.Nat.{mul-le-mul_left, mul_comm, suc-mul, pow-succ'}
use native.Mathlib.Omega.{arith}
use lib.Dec.{T}
use lib.IntN.{ℤ, pos, negsuc, neg_ℤ, ◌+ℤ◌, ◌-ℤ◌}
use lib.Pow.{pow_mono, pow_pos}
use lib.Signed.{shr_z}
use Rattle.integers.specs.Shift.{pow2, shift_right, round_shift}
use Rattle.integers.specs.Within.{Within}
use Rattle.integers.proofs.LinearLaws.{pos_part, neg_part, parts_add, parts_neg}
use Rattle.integers.proofs.OrderLaws.{Floor, shr_floor}
use Rattle.integers.proofs.BoundLaws.{within_le, within_in, within_pos, within_mul}
use Rattle.h265.specs.Range.{is_size, log2_size, transform_range}
use Rattle.h265.specs.ScalingFactor.{ScalingList}
use Rattle.h265.specs.Scaling.{scale_level, scaled_at}
use Rattle.h265.specs.TransformSkip.{ts_shift, ts_residual, skipped_at}
use Rattle.h265.proofs.RangeLaws.{log2_size_bound, transform_range_most, clip_coeff_within}

-- (c + m) >> .. by 2m
round_within : {b : ℕ} (c q : ℤ) (m : ℕ) → 1 ≤ m → Within (2 * b) c
    → (2 * m * pos_part q + neg_part (c +ℤ pos m) ≤ pos_part (c +ℤ pos m) + 2 * m * neg_part q)
    → (pos_part (c +ℤ pos m) + 2 * m * neg_part q < 2 * m * pos_part q + neg_part (c +ℤ pos m) + 2 * m)
    → Within b q
round_within c (pos zero) m h f lo hi = within_pos (omega arith)
round_within c (pos (suc a)) m h f lo hi =
    record { within = omega (arith, within_in f, parts_add c (pos m), mul-le-mul_left a h, mul_comm (2 * m) (suc a), mul_comm m a, suc-mul a (2 * m)) }
round_within c (negsuc a) m h f lo hi =
    record { within = omega (arith, within_in f, parts_add c (pos m), mul-le-mul_left a h, mul_comm (2 * m) (suc a), mul_comm m a, suc-mul a (2 * m)) }

pub ts_residual_half : {b : ℕ} (k : ℕ) (c : ℤ) → Within (2 * b) c → Within b (ts_residual (pos (suc k)) c)
unfolding ts_residual round_shift shift_right
ts_residual_half {b} k c f =
    subst (λ (j : ℕ). Within b (shr_z (c +ℤ pow2 j) (2 ^ suc k))) (let e : k ≡ suc k - 1 = omega arith in e)
    (subst (λ (m : ℕ). Within b (shr_z (c +ℤ pow2 k) m)) (sym (pow-succ' 2 k)) (halves (shr_floor (c +ℤ pow2 k) (2 * 2 ^ k) (omega (arith, pow_pos k)))))
  where
    halves : Floor (c +ℤ pow2 k) (2 * 2 ^ k) (shr_z (c +ℤ pow2 k) (2 * 2 ^ k)) → Within b (shr_z (c +ℤ pow2 k) (2 * 2 ^ k))
    halves g = round_within c (shr_z (c +ℤ pow2 k) (2 * 2 ^ k)) (2 ^ k) (pow_pos k) f g.0 g.1

-- t ≤ 0 in the plain range alone
range_plain : (b : ℕ) (x : Bool) → transform_range b x ≤ b + 5 → transform_range b x ≡ 15
unfolding transform_range
range_plain b true h = omega arith
range_plain b false h = refl

module _ (n b : ℕ) (x : Bool) (size : T (is_size n)) (deep : b ≤ 16) (c : ℤ) (f : Within (2 ^ transform_range b x) c) where
  residual_within : (t : ℤ) → t ≡ pos (transform_range b x) -ℤ pos (b + log2_size n) → Within 2097152 (ts_residual t c)
  unfolding ts_residual
  residual_within (pos zero) e =
      let r : transform_range b x ≡ 15 = range_plain b x (omega (arith, ap pos_part e, ap neg_part e, parts_add (pos (transform_range b x)) (neg_ℤ (pos (b + log2_size n))), parts_neg (pos (b + log2_size n)), log2_size_bound n size)) in
      within_le (pow_mono {i = transform_range b x} {j = 21} (omega (arith, r))) f
  residual_within (pos (suc k)) e = ts_residual_half k c (within_le (pow_mono (transform_range_most b x deep)) f)
  residual_within (negsuc k) e =
      let parts = parts_add (pos (transform_range b x)) (neg_ℤ (pos (b + log2_size n))) in
      let r : transform_range b x ≡ 15 = range_plain b x (omega (arith, ap pos_part e, ap neg_part e, parts, parts_neg (pos (b + log2_size n)), log2_size_bound n size)) in
      let s : suc k ≤ 6 = omega (arith, r, deep, ap pos_part e, ap neg_part e, parts, parts_neg (pos (b + log2_size n)), log2_size_bound n size) in
      within_mul (within_le (pow_mono {i = transform_range b x} {j = 15} (omega (arith, r))) f) (within_pos (pow_mono s))

pub skipped_at_within : (list : ScalingList) (n b : ℕ) (x : Bool) (q : ℤ) (levels : List ℤ) (i : ℕ) → T (is_size n) → b ≤ 16 → Within 2097152 (skipped_at list n b x q levels i)
unfolding skipped_at scaled_at scale_level ts_shift
skipped_at_within list n b x q levels i size deep = residual_within n b x size deep _ (clip_coeff_within (transform_range b x) _) _ refl
