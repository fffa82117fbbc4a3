-- What each rounding moves a number by, and what the roundings of both stages come to.
--   round_shift_near        2^s × the rounding shift of x differs from x by at most half of 2^s
--   line_diff              a line over p × g − a
--   stages_near            both stages over coefficients d, where no limit of stage one changes anything
use mathlib.Core.Path.{◌≡◌, sym, ap, ap₂, ◌∙◌}
use Prim.Native.Nat.{ℕ, ◌+◌, ◌*◌, ◌-◌, ◌^◌, ◌≤◌, ◌<◌}
use native.Mathlib.Omega.{arith}
use lib.Pow.{pow_pos, pow-add}
use lib.IntN.{ℤ, pos, negsuc, neg_ℤ, ◌+ℤ◌, ◌-ℤ◌, ◌*ℤ◌}
use lib.Signed.{shr_z, ◌≤ℤ◌}
use Rattle.integers.specs.Shift.{pow2, shift_right, round_shift}
use Rattle.integers.specs.Sum.{sum}
use Rattle.integers.specs.Within.{Within}
use Rattle.integers.proofs.LinearLaws.{parts_add, parts_neg, parts_mul, split, ring, diff_ext}
use Rattle.integers.proofs.OrderLaws.{shr_floor, *ℤ_assoc}
use Rattle.integers.proofs.BoundLaws.{within_out, within_add, within_lit_mul, within_le, within_eq}
use Rattle.integers.proofs.SumLaws.{sum_cong, sum_add, sum_scale}
use Rattle.h265.specs.Matrix.{abs_sum}
use Rattle.h265.specs.Range.{clip_coeff}
use Rattle.h265.specs.Transform.{transform_line, stage_one_sum, stage_one_value, intermediate, stage_two_sum, stage_two}
use Rattle.transform_1d.proofs.MatrixLaws.{transform_line_within}

pow_double : (s : ℕ) → 1 ≤ s → 2 ^ s ≡ 2 * 2 ^ (s - 1)
pow_double s h = ap (λ (k : ℕ). 2 ^ k) (let e : s ≡ 1 + (s - 1) = omega arith in e) ∙ pow-add 2 1 (s - 1)

pub round_shift_near : (x : ℤ) (s : ℕ) → 1 ≤ s → Within (2 ^ (s - 1)) (pow2 s *ℤ round_shift x s -ℤ x)
unfolding round_shift shift_right
round_shift_near x s h =
    let y : ℤ = x +ℤ pow2 (s - 1) in
    let q : ℤ = shr_z y (2 ^ s) in
    within_out (pow2 s *ℤ q -ℤ x)
    (omega (
      arith,
      shr_floor y (2 ^ s) (pow_pos s),
      parts_add x (pow2 (s - 1)),
      parts_mul (pow2 s) q,
      parts_neg x,
      parts_add (pow2 s *ℤ q) (neg_ℤ x),
      pow_double s h,
    ))

module _ (t : ℕ → ℕ → ℤ) (n : ℕ) where
  pub line_diff : (p : ℕ) (g a : ℕ → ℤ) (j : ℕ) → transform_line t n (λ c. pos p *ℤ g c -ℤ a c) j ≡ pos p *ℤ transform_line t n g j -ℤ transform_line t n a j
  unfolding transform_line
  line_diff p g a j =
      sum_cong n (λ c. t c j *ℤ (pos p *ℤ g c -ℤ a c)) (λ c. pos p *ℤ (t c j *ℤ g c) +ℤ negsuc 0 *ℤ (t c j *ℤ a c)) (λ c l. apart (pos p) (t c j) (g c) (a c))
      ∙ sum_add n (λ c. pos p *ℤ (t c j *ℤ g c)) (λ c. negsuc 0 *ℤ (t c j *ℤ a c))
      ∙ ap₂ ◌+ℤ◌ (sum_scale (pos p) n (λ c. t c j *ℤ g c)) (sum_scale (negsuc 0) n (λ c. t c j *ℤ a c) ∙ minus (sum n (λ c. t c j *ℤ a c)))
    where
      apart : (u v y z : ℤ) → v *ℤ (u *ℤ y -ℤ z) ≡ u *ℤ (v *ℤ y) +ℤ negsuc 0 *ℤ (v *ℤ z)
      apart u v y z = rw (← split u, ← split v, ← split y, ← split z) (simp ring (diff_ext _ _ _ _ (omega arith)))

      minus : (z : ℤ) → negsuc 0 *ℤ z ≡ neg_ℤ z
      minus z = rw (← split z) (simp ring (diff_ext _ _ _ _ (omega arith)))

  module _ (r s : ℕ) (d : ℕ → ℕ → ℤ) (m j : ℕ) where
    -- 128 × the intermediate differs from the sum of stage one by at most 64
    stage_one_near : (c : ℕ) → clip_coeff r (stage_one_value t n d m c) ≡ stage_one_value t n d m c
        → Within 64 (pos 128 *ℤ intermediate t n r d m c -ℤ stage_one_sum t n d m c)
    unfolding intermediate stage_one_value
    stage_one_near c e = rw e (round_shift_near (stage_one_sum t n d m c) 7 (omega arith))

    -- and stage two over it differs from stage two over the sums by 64 for each unit of an entry
    line_near : {a : ℕ} → abs_sum t n j ≤ℤ pos a → ((c : ℕ) → c < n → clip_coeff r (stage_one_value t n d m c) ≡ stage_one_value t n d m c)
        → Within (a * 64) (pos 128 *ℤ transform_line t n (λ c. intermediate t n r d m c) j -ℤ transform_line t n (λ c. stage_one_sum t n d m c) j)
    line_near h u =
        within_eq (sym (line_diff 128 (λ c. intermediate t n r d m c) (λ c. stage_one_sum t n d m c) j))
        (transform_line_within t n (λ c. pos 128 *ℤ intermediate t n r d m c -ℤ stage_one_sum t n d m c) j h (λ c l. stage_one_near c (u c l)))

    pub stages_near : {a : ℕ} → 1 ≤ s → abs_sum t n j ≤ℤ pos a → ((c : ℕ) → c < n → clip_coeff r (stage_one_value t n d m c) ≡ stage_one_value t n d m c)
        → Within (64 * a + 2 ^ (6 + s)) (pow2 (7 + s) *ℤ stage_two t n s (intermediate t n r d) m j -ℤ transform_line t n (λ c. stage_one_sum t n d m c) j)
    unfolding stage_two stage_two_sum
    stages_near {a} k h u =
        let g : ℤ = transform_line t n (λ c. intermediate t n r d m c) j in
        let e : ℤ = transform_line t n (λ c. stage_one_sum t n d m c) j in
        let q : ℤ = round_shift g s in
        within_eq (ap (λ (z : ℤ). z -ℤ e) (ap (λ (p : ℕ). pos p *ℤ q) (pow-add 2 7 s) ∙ *ℤ_assoc (pos 128) (pow2 s) q) ∙ through (pow2 s *ℤ q) g e)
        (within_le (omega (arith, pow-add 2 6 s, pow_double s k)) (within_add (within_lit_mul 128 (round_shift_near g s k)) (line_near h u)))
      where
        through : (y g e : ℤ) → pos 128 *ℤ y -ℤ e ≡ pos 128 *ℤ (y -ℤ g) +ℤ (pos 128 *ℤ g -ℤ e)
        through y g e = rw (← split y, ← split g, ← split e) (simp ring (diff_ext _ _ _ _ (omega arith)))
