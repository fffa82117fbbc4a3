-- The two levels between which nothing is limited are exact on both sides.
--   coeff_max_pos    the largest coefficient as a natural number
--   limited_exact   a level past them is one that is limited, or whose result is; and no other
--   value_between   between them the coefficient needs no limit
--   value_above, value_below   past them it is the same for every level
use mathlib.Core.Path.{◌≡◌, refl, sym, ap, ◌∙◌}
use mathlib.Core.Bool.{Bool, true, false, ◌||◌}
use Prim.Native.Nat.{ℕ, zero, suc, ◌+◌, ◌-◌, ◌*◌, ◌^◌, ◌≤◌, ◌<◌}
use native.Mathlib.Nat.{mul_comm}
use native.Mathlib.Decide.{dec_lt}
use native.Mathlib.Omega.{arith}
use lib.IntN.{ℤ, pos, neg_ℤ, ◌+ℤ◌, ◌*ℤ◌, *ℤ_comm, pos-*ℤ-pos}
use lib.Pow.{pow_pos}
use lib.Signed.{lt_z, ◌≤ℤ◌, ◌<ℤ◌, clash_ℤ}
use Rattle.integers.specs.Clip.{clip3}
use Rattle.integers.specs.Shift.{pow2, shift_right}
use Rattle.integers.proofs.LinearLaws.{pos_part, neg_part, parts_add, parts_neg, parts_ext, le_in, le_out, lt_in, lt_out, ring, diff_le}
use Rattle.integers.proofs.OrderLaws.{≤ℤ_trans, <ℤ-≤ℤ, *ℤ_mono}
use Rattle.integers.proofs.MachineLaws.{lt_z_true, lt_z_false, lt_z_of_lt, lt_z_of_le}
use Rattle.integers.proofs.ClipLaws.{clip3_id, clip3_low, clip3_high, clip3_cases}
use Rattle.integers.proofs.ShiftLaws.{le_shift_right}
use Rattle.h265.specs.Range.{coeff_min, coeff_max, clip_coeff, outside_range}
use Rattle.h265.proofs.RangeLaws.{coeff_min-≤-coeff_max}
use Rattle.scaling_values.specs.Flat.{Exact}

pub coeff_max_pos : (r : ℕ) → coeff_max r ≡ pos (2 ^ r - 1)
unfolding coeff_max
coeff_max_pos r = parts_ext (coeff_max r) (pos (2 ^ r - 1)) (omega (arith, pow_pos r, parts_add (pow2 r) (neg_ℤ (pos 1))))

-- products with what is negative
scaled_neg : (m n : ℕ) → neg_ℤ (pos (m * n)) ≤ℤ (pos m *ℤ neg_ℤ (pos n))
scaled_neg m zero = rw (pos-*ℤ-pos m 0) (le_out (neg_ℤ (pos (m * 0))) (pos (m * 0)) (omega (arith, parts_neg (pos (m * 0)))))
scaled_neg m (suc n) = simp ring (diff_le _ _ _ _ (omega arith))

neg_scaled : (m n : ℕ) → (pos m *ℤ neg_ℤ (pos n)) ≤ℤ neg_ℤ (pos (m * n))
neg_scaled m zero = rw (pos-*ℤ-pos m 0) (le_out (pos (m * 0)) (neg_ℤ (pos (m * 0))) (omega (arith, parts_neg (pos (m * 0)))))
neg_scaled m (suc n) = simp ring (diff_le _ _ _ _ (omega arith))

module _ (f a s r t l : ℕ) (e : Exact f a s (2 ^ r - 1) t l) where
  abbrev product : ℤ → ℤ
  product c = c *ℤ pos f +ℤ pos a

  abbrev rounded : ℤ → ℤ
  rounded c = shift_right (product c) s

  abbrev end : ℕ
  end = (2 ^ r - 1 + 1) * 2 ^ s

  end_is : end ≡ 2 ^ s * 2 ^ r
  end_is = ap (λ (k : ℕ). k * 2 ^ s) (let h : 2 ^ r - 1 + 1 ≡ 2 ^ r = omega (arith, pow_pos r) in h) ∙ mul_comm (2 ^ r) (2 ^ s)

  -- a multiple of the factor, from one level to another
  times_ge : (c : ℤ) (n : ℕ) → pos n ≤ℤ c → pos (n * f) ≤ℤ (c *ℤ pos f)
  times_ge c n h = rw (*ℤ_comm c (pos f), mul_comm n f, ← pos-*ℤ-pos f n) (*ℤ_mono f h)

  times_le : (c : ℤ) (n : ℕ) → c ≤ℤ pos n → (c *ℤ pos f) ≤ℤ pos (n * f)
  times_le c n h = rw (*ℤ_comm c (pos f), mul_comm n f, ← pos-*ℤ-pos f n) (*ℤ_mono f h)

  times_ge_neg : (c : ℤ) (n : ℕ) → neg_ℤ (pos n) ≤ℤ c → neg_ℤ (pos (n * f)) ≤ℤ (c *ℤ pos f)
  times_ge_neg c n h = rw (*ℤ_comm c (pos f), mul_comm n f) (≤ℤ_trans (scaled_neg f n) (*ℤ_mono f h))

  times_le_neg : (c : ℤ) (n : ℕ) → c ≤ℤ neg_ℤ (pos n) → (c *ℤ pos f) ≤ℤ neg_ℤ (pos (n * f))
  times_le_neg c n h = rw (*ℤ_comm c (pos f), mul_comm n f) (≤ℤ_trans (*ℤ_mono f h) (neg_scaled f n))

  -- the ends of the range, shifted back
  end_pos : pow2 s *ℤ pow2 r ≡ pos end
  end_pos = pos-*ℤ-pos (2 ^ s) (2 ^ r) ∙ ap pos (sym end_is)

  over : (c : ℤ) → pos end ≤ℤ product c → coeff_max r <ℤ rounded c
  over c h =
      let k : pow2 r ≤ℤ rounded c = (le_shift_right (pow2 r) (product c) s).0 (rw end_pos h) in
      lt_out (coeff_max r) (rounded c) (rw (coeff_max_pos r) (omega (arith, le_in k, pow_pos r)))

  not_over : (c : ℤ) → product c <ℤ pos end → rounded c ≤ℤ coeff_max r
  not_over c h = by_test (lt_z (coeff_max r) (rounded c)) refl
    where
      by_test : (b : Bool) → lt_z (coeff_max r) (rounded c) ≡ b → rounded c ≤ℤ coeff_max r
      by_test false q = lt_z_false q
      by_test true q =
          let g : coeff_max r <ℤ rounded c = lt_z_true q in
          let k : pow2 r ≤ℤ rounded c = le_out (pow2 r) (rounded c) (omega (arith, lt_in (rw (coeff_max_pos r) at g), pow_pos r)) in
          clash_ℤ h (rw end_pos at ((le_shift_right (pow2 r) (product c) s).1 k))

  -- the least coefficient, shifted back
  least_ge : neg_ℤ (pos end) ≤ℤ (pow2 s *ℤ coeff_min r)
  unfolding coeff_min
  least_ge = rw end_is (scaled_neg (2 ^ s) (2 ^ r))

  least_le : (pow2 s *ℤ coeff_min r) ≤ℤ neg_ℤ (pos end)
  unfolding coeff_min
  least_le = rw end_is (neg_scaled (2 ^ s) (2 ^ r))

  not_under : (c : ℤ) → neg_ℤ (pos end) ≤ℤ product c → coeff_min r ≤ℤ rounded c
  not_under c h = (le_shift_right (coeff_min r) (product c) s).0 (≤ℤ_trans least_le h)

  under : (c : ℤ) → product c <ℤ neg_ℤ (pos end) → rounded c <ℤ coeff_min r
  under c h = by_test (lt_z (rounded c) (coeff_min r)) refl
    where
      by_test : (b : Bool) → lt_z (rounded c) (coeff_min r) ≡ b → rounded c <ℤ coeff_min r
      by_test true q = lt_z_true q
      by_test false q = clash_ℤ h (≤ℤ_trans least_ge ((le_shift_right (coeff_min r) (product c) s).1 (lt_z_false q)))

  -- in and out of the range
  inside : (z : ℤ) → coeff_min r ≤ℤ z → z ≤ℤ coeff_max r → outside_range r z ≡ false
  unfolding outside_range
  inside z h k = rw (lt_z_of_le h, lt_z_of_le k)

  outside_low : (z : ℤ) → z <ℤ coeff_min r → outside_range r z ≡ true
  unfolding outside_range
  outside_low z h = rw (lt_z_of_lt h)

  outside_high : (z : ℤ) → coeff_max r <ℤ z → outside_range r z ≡ true
  unfolding outside_range
  outside_high z h = rw (lt_z_of_lt h) (by_test (lt_z z (coeff_min r)))
    where
      by_test : (b : Bool) → (b || true) ≡ true
      by_test true = refl
      by_test false = refl

  clip_id : (z : ℤ) → coeff_min r ≤ℤ z → z ≤ℤ coeff_max r → clip_coeff r z ≡ z
  unfolding clip_coeff
  clip_id z h k = clip3_id (coeff_min r) (coeff_max r) z h k

  min_in : (z : ℤ) → coeff_min r ≤ℤ z → neg_part z ≤ pos_part z + 2 ^ r
  unfolding coeff_min
  min_in z h = omega (arith, le_in h, parts_neg (pow2 r))

  min_out : (z : ℤ) → neg_part z ≤ pos_part z + 2 ^ r → coeff_min r ≤ℤ z
  unfolding coeff_min
  min_out z h = le_out (coeff_min r) z (omega (arith, parts_neg (pow2 r)))

  max_in : (z : ℤ) → z ≤ℤ coeff_max r → pos_part z ≤ neg_part z + (2 ^ r - 1)
  max_in z h = omega (arith, le_in (rw (coeff_max_pos r) at h))

  max_out : (z : ℤ) → pos_part z ≤ neg_part z + (2 ^ r - 1) → z ≤ℤ coeff_max r
  max_out z h = rw (coeff_max_pos r) (le_out z (pos (2 ^ r - 1)) (omega arith))

  -- a level that nothing limits
  between : (level : ℤ) → neg_ℤ (pos l) ≤ℤ level → level ≤ℤ pos t → outside_range r level || outside_range r (rounded (clip_coeff r level)) ≡ false
  between level h k =
      let lo : coeff_min r ≤ℤ level = min_out level (omega (arith, le_in h, parts_neg (pos l), e.low.inside, pow_pos r)) in
      let hi : level ≤ℤ coeff_max r = max_out level (omega (arith, le_in k, e.top.inside)) in
      let below : product level <ℤ pos end = lt_out (product level) (pos end) (omega (arith, e.top.fits, le_in (times_le level t k), parts_add (level *ℤ pos f) (pos a))) in
      let above : neg_ℤ (pos end) ≤ℤ product level = le_out (neg_ℤ (pos end)) (product level) (omega (arith, e.low.fits, le_in (times_ge_neg level l h), parts_neg (pos (l * f)), parts_neg (pos end), parts_add (level *ℤ pos f) (pos a))) in
      rw (clip_id level lo hi, inside level lo hi, inside (rounded level) (not_under level above) (not_over level below))

  -- a level in the range, past one of the two
  past_top : (level : ℤ) → pos t <ℤ level → coeff_min r ≤ℤ level → level ≤ℤ coeff_max r → outside_range r (rounded (clip_coeff r level)) ≡ true
  past_top level h lo hi =
      let less : t < 2 ^ r - 1 = omega (arith, lt_in h, max_in level hi) in
      let next : pos (t + 1) ≤ℤ level = le_out (pos (t + 1)) level (omega (arith, lt_in h)) in
      let beyond : pos end ≤ℤ product level = le_out (pos end) (product level) (omega (arith, e.top.next less, le_in (times_ge level (t + 1) next), parts_add (level *ℤ pos f) (pos a))) in
      rw (clip_id level lo hi) (outside_high (rounded level) (over level beyond))

  past_low : (level : ℤ) → level <ℤ neg_ℤ (pos l) → coeff_min r ≤ℤ level → level ≤ℤ coeff_max r → outside_range r (rounded (clip_coeff r level)) ≡ true
  past_low level h lo hi =
      let less : l < 2 ^ r - 1 + 1 = omega (arith, lt_in h, parts_neg (pos l), min_in level lo, pow_pos r) in
      let next : level ≤ℤ neg_ℤ (pos (l + 1)) = le_out level (neg_ℤ (pos (l + 1))) (omega (arith, lt_in h, parts_neg (pos l), parts_neg (pos (l + 1)))) in
      let beyond : product level <ℤ neg_ℤ (pos end) = lt_out (product level) (neg_ℤ (pos end)) (omega (arith, e.low.next less, le_in (times_le_neg level (l + 1) next), parts_neg (pos ((l + 1) * f)), parts_neg (pos end), parts_add (level *ℤ pos f) (pos a))) in
      rw (clip_id level lo hi) (outside_low (rounded level) (under level beyond))

  -- either the level lies outside the range, or it is one of those
  past : (level : ℤ) → (coeff_min r ≤ℤ level → level ≤ℤ coeff_max r → outside_range r (rounded (clip_coeff r level)) ≡ true)
      → outside_range r level || outside_range r (rounded (clip_coeff r level)) ≡ true
  past level g = by_tests (lt_z level (coeff_min r)) (lt_z (coeff_max r) level) refl refl
    where
      by_tests : (x y : Bool) → lt_z level (coeff_min r) ≡ x → lt_z (coeff_max r) level ≡ y → outside_range r level || outside_range r (rounded (clip_coeff r level)) ≡ true
      by_tests true y p q = rw (outside_low level (lt_z_true p))
      by_tests false true p q = rw (outside_high level (lt_z_true q))
      by_tests false false p q = rw (inside level (lt_z_false p) (lt_z_false q)) (g (lt_z_false p) (lt_z_false q))

  pub limited_exact : (level : ℤ)
      → lt_z level (neg_ℤ (pos l)) || lt_z (pos t) level ≡ outside_range r level || outside_range r (rounded (clip_coeff r level))
  limited_exact level = by_tests (lt_z level (neg_ℤ (pos l))) (lt_z (pos t) level) refl refl
    where
      by_tests : (x y : Bool) → lt_z level (neg_ℤ (pos l)) ≡ x → lt_z (pos t) level ≡ y → x || y ≡ outside_range r level || outside_range r (rounded (clip_coeff r level))
      by_tests true y p q = sym (past level (past_low level (lt_z_true p)))
      by_tests false true p q = sym (past level (past_top level (lt_z_true q)))
      by_tests false false p q = sym (between level (lt_z_false p) (lt_z_false q))

  -- ---- the coefficient
  abbrev coefficient : ℤ → ℤ
  coefficient c = clip3 (coeff_min r) (coeff_max r) (rounded (clip_coeff r c))

  pub value_between : (level : ℤ) → neg_ℤ (pos l) ≤ℤ level → level ≤ℤ pos t → rounded level ≡ coefficient level
  value_between level h k =
      let lo : coeff_min r ≤ℤ level = min_out level (omega (arith, le_in h, parts_neg (pos l), e.low.inside, pow_pos r)) in
      let hi : level ≤ℤ coeff_max r = max_out level (omega (arith, le_in k, e.top.inside)) in
      let below : product level <ℤ pos end = lt_out (product level) (pos end) (omega (arith, e.top.fits, le_in (times_le level t k), parts_add (level *ℤ pos f) (pos a))) in
      let above : neg_ℤ (pos end) ≤ℤ product level = le_out (neg_ℤ (pos end)) (product level) (omega (arith, e.low.fits, le_in (times_ge_neg level l h), parts_neg (pos (l * f)), parts_neg (pos end), parts_add (level *ℤ pos f) (pos a))) in
      rw (clip_id level lo hi) (sym (clip3_id (coeff_min r) (coeff_max r) (rounded level) (not_under level above) (not_over level below)))

  -- past a level below the range's end every result is past the range; else every level is the range's end
  clip_above : (c : ℤ) → pos t <ℤ c → t < 2 ^ r - 1 → pos (t + 1) ≤ℤ clip_coeff r c
  unfolding clip_coeff
  clip_above c h k =
      clip3_cases (λ z. pos (t + 1) ≤ℤ z) (coeff_min r) (coeff_max r) c
      (λ x. le_out (pos (t + 1)) (coeff_min r) (omega (arith, lt_in h, lt_in x)))
      (λ x y. rw (coeff_max_pos r) (le_out (pos (t + 1)) (pos (2 ^ r - 1)) (omega (arith, k))))
      (λ x y. le_out (pos (t + 1)) c (omega (arith, lt_in h)))

  high_value : (c : ℤ) → pos t <ℤ c → t < 2 ^ r - 1 → coefficient c ≡ coeff_max r
  high_value c h k =
      let beyond : pos end ≤ℤ product (clip_coeff r c) = le_out (pos end) (product (clip_coeff r c)) (omega (arith, e.top.next k, le_in (times_ge (clip_coeff r c) (t + 1) (clip_above c h k)), parts_add (clip_coeff r c *ℤ pos f) (pos a))) in
      let g = over (clip_coeff r c) beyond in
      clip3_high (coeff_min r) (coeff_max r) (rounded (clip_coeff r c)) (≤ℤ_trans (coeff_min-≤-coeff_max r) (<ℤ-≤ℤ g)) g

  high_level : (c : ℤ) → pos t <ℤ c → (t < 2 ^ r - 1 → ⊥) → clip_coeff r c ≡ coeff_max r
  unfolding clip_coeff
  high_level c h k =
      let g : coeff_max r <ℤ c = rw (coeff_max_pos r) (lt_out (pos (2 ^ r - 1)) c (omega (arith, lt_in h, e.top.inside))) in
      clip3_high (coeff_min r) (coeff_max r) c (≤ℤ_trans (coeff_min-≤-coeff_max r) (<ℤ-≤ℤ g)) g

  pub value_above : (c d : ℤ) → pos t <ℤ c → pos t <ℤ d → coefficient c ≡ coefficient d
  value_above c d h k =
      elim (dec_lt t (2 ^ r - 1)) [
        | yes g ↦ high_value c h g ∙ sym (high_value d k g)
        | no g ↦ ap (λ (z : ℤ). clip3 (coeff_min r) (coeff_max r) (rounded z)) (high_level c h g ∙ sym (high_level d k g))
      ]

  clip_below : (c : ℤ) → c <ℤ neg_ℤ (pos l) → l < 2 ^ r - 1 + 1 → clip_coeff r c ≤ℤ neg_ℤ (pos (l + 1))
  unfolding clip_coeff coeff_min
  clip_below c h k =
      clip3_cases (λ z. z ≤ℤ neg_ℤ (pos (l + 1))) (coeff_min r) (coeff_max r) c
      (λ x. le_out (coeff_min r) (neg_ℤ (pos (l + 1))) (omega (arith, k, parts_neg (pow2 r), parts_neg (pos (l + 1)), pow_pos r)))
      (λ x y. le_out (coeff_max r) (neg_ℤ (pos (l + 1))) (omega (arith, lt_in h, lt_in y, parts_neg (pos l), parts_neg (pos (l + 1)))))
      (λ x y. le_out c (neg_ℤ (pos (l + 1))) (omega (arith, lt_in h, parts_neg (pos l), parts_neg (pos (l + 1)))))

  low_value : (c : ℤ) → c <ℤ neg_ℤ (pos l) → l < 2 ^ r - 1 + 1 → coefficient c ≡ coeff_min r
  low_value c h k =
      let beyond : product (clip_coeff r c) <ℤ neg_ℤ (pos end) = lt_out (product (clip_coeff r c)) (neg_ℤ (pos end)) (omega (arith, e.low.next k, le_in (times_le_neg (clip_coeff r c) (l + 1) (clip_below c h k)), parts_neg (pos ((l + 1) * f)), parts_neg (pos end), parts_add (clip_coeff r c *ℤ pos f) (pos a))) in
      clip3_low (coeff_min r) (coeff_max r) (rounded (clip_coeff r c)) (under (clip_coeff r c) beyond)

  low_level : (c : ℤ) → c <ℤ neg_ℤ (pos l) → (l < 2 ^ r - 1 + 1 → ⊥) → clip_coeff r c ≡ coeff_min r
  unfolding clip_coeff coeff_min
  low_level c h k =
      clip3_low (coeff_min r) (coeff_max r) c
      (lt_out c (coeff_min r) (omega (arith, lt_in h, e.low.inside, parts_neg (pos l), parts_neg (pow2 r), pow_pos r)))

  pub value_below : (c d : ℤ) → c <ℤ neg_ℤ (pos l) → d <ℤ neg_ℤ (pos l) → coefficient c ≡ coefficient d
  value_below c d h k =
      elim (dec_lt l (2 ^ r - 1 + 1)) [
        | yes g ↦ low_value c h g ∙ sym (low_value d k g)
        | no g ↦ ap (λ (z : ℤ). clip3 (coeff_min r) (coeff_max r) (rounded z)) (low_level c h g ∙ sym (low_level d k g))
      ]
