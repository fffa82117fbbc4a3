-- What one changed coefficient changes: one column of the intermediate, by one product in each sum, and one product in each sum of stage two.
--   sum_replaced       a sum of which one term is changed
--   block_same, block_other   the block with one coefficient replaced
--   one_same, one_other       its sums of stage one, in the coefficient's column and in another
--   edited_sample      its residual at one sample, by what stays and by the coefficient's value
use mathlib.Core.Path.{◌≡◌, sym, ap, ap₂, ◌∙◌}
use mathlib.Core.List.{List}
use Prim.Native.Nat.{ℕ, zero, suc, ◌+◌, ◌*◌, ◌<◌}
use native.Mathlib.Decide.{ℕ_discrete}
use native.Mathlib.Nat.{not-suc-le-zero}
use native.Mathlib.Omega.{arith}
use lib.IntN.{ℤ, pos, ◌+ℤ◌, ◌-ℤ◌, ◌*ℤ◌}
use lib.ListN.{length, set}
use lib.Seq.{get_or-set_same, get_or-set_other}
use Rattle.integers.specs.Shift.{round_shift}
use Rattle.integers.specs.Sum.{sum}
use Rattle.integers.proofs.LinearLaws.{split, ring, diff_ext}
use Rattle.integers.proofs.SumLaws.{sum_cong, sum_suc}
use Rattle.h265.specs.Range.{clip_coeff}
use Rattle.h265.specs.Transform.{transform_line, block_at, columns_read, stage_one_sum, stage_one_value, intermediate, stage_two_sum, stage_two}
use Rattle.h265.proofs.TransformLaws.{columns_read_in}
use Rattle.transform_1d.proofs.RowsLaws.{row_unique}
use Rattle.edit_blocks.specs.Work.{edited_by}

-- ---- sums
pub sum_replaced : (n k : ℕ) (f g : ℕ → ℤ) → k < n → ((i : ℕ) → i < n → (i ≡ k → ⊥) → g i ≡ f i) → sum n g ≡ sum n f +ℤ (g k -ℤ f k)
sum_replaced zero k f g h e = absurd (not-suc-le-zero h)
sum_replaced (suc n) k f g h e =
    elim (ℕ_discrete k n) [
      | yes q ↦ rw (q, sum_suc n g, sum_suc n f) (ap (λ (z : ℤ). z +ℤ g n) (sum_cong n g f (λ i l. e i (omega arith) (λ d. omega (arith, d, q)))) ∙ last (sum n f) (g n) (f n))
      | no q ↦ rw (sum_suc n g, sum_suc n f) (ap₂ ◌+ℤ◌ (sum_replaced n k f g (omega arith) (λ i l d. e i (omega arith) d)) (e n (omega arith) (λ d. q (sym d))) ∙ inner (sum n f) (g k) (f k) (f n))
    ]
  where
    last : (a y z : ℤ) → a +ℤ y ≡ (a +ℤ z) +ℤ (y -ℤ z)
    last a y z = rw (← split a, ← split y, ← split z) (simp ring (diff_ext _ _ _ _ (omega arith)))

    inner : (a y z w : ℤ) → (a +ℤ (y -ℤ z)) +ℤ w ≡ (a +ℤ w) +ℤ (y -ℤ z)
    inner a y z w = rw (← split a, ← split y, ← split z, ← split w) (simp ring (diff_ext _ _ _ _ (omega arith)))

-- a sum without one of its products, and with another in its place
rest_is : (a u x v : ℤ) → a +ℤ (u *ℤ v -ℤ u *ℤ x) ≡ (a +ℤ (pos 0 -ℤ u) *ℤ x) +ℤ u *ℤ v
rest_is a u x v = rw (← split a, ← split u, ← split x, ← split v) (simp ring (diff_ext _ _ _ _ (omega arith)))

module _ (t : ℕ → ℕ → ℤ) (n r s : ℕ) (d : List ℤ) (k c : ℕ) (hk : k < n) (hc : c < n) (inside : k * n + c < length d) (v : ℤ) where
  abbrev old : ℕ → ℕ → ℤ
  old = columns_read n (block_at n d)

  abbrev new : ℕ → ℕ → ℤ
  new = columns_read n (block_at n (set d (k * n + c) v))

  block_same : new k c ≡ v
  unfolding block_at
  block_same = columns_read_in n (block_at n (set d (k * n + c) v)) k c hc ∙ get_or-set_same d (k * n + c) v (pos 0) inside

  block_other : (i e : ℕ) → e < n → (i * n + e ≡ k * n + c → ⊥) → new i e ≡ old i e
  unfolding block_at
  block_other i e l h =
      columns_read_in n (block_at n (set d (k * n + c) v)) i e l ∙ get_or-set_other d (k * n + c) (i * n + e) v (pos 0) h ∙ sym (columns_read_in n (block_at n d) i e l)

  -- ---- stage one
  one_same : (m : ℕ) → stage_one_sum t n new m c ≡ (stage_one_sum t n old m c +ℤ (pos 0 -ℤ t k m) *ℤ old k c) +ℤ t k m *ℤ v
  unfolding stage_one_sum transform_line
  one_same m =
      sum_replaced n k (λ i. t i m *ℤ old i c) (λ i. t i m *ℤ new i c) hk (λ i l h. ap (λ (z : ℤ). t i m *ℤ z) (block_other i c hc (λ q. h (row_unique n i k c c hc hc q))))
      ∙ ap (λ (z : ℤ). stage_one_sum t n old m c +ℤ (t k m *ℤ z -ℤ t k m *ℤ old k c)) block_same
      ∙ rest_is (stage_one_sum t n old m c) (t k m) (old k c) v

  one_other : (m e : ℕ) → e < n → (e ≡ c → ⊥) → intermediate t n r new m e ≡ intermediate t n r old m e
  unfolding intermediate stage_one_value stage_one_sum transform_line
  one_other m e l h =
      ap (λ (z : ℤ). clip_coeff r (round_shift z 7))
      (sum_cong n (λ i. t i m *ℤ new i e) (λ i. t i m *ℤ old i e) (λ i q. ap (λ (z : ℤ). t i m *ℤ z) (block_other i e l (λ w. h (column_unique i w)))))
    where
      column_unique : (i : ℕ) → i * n + e ≡ k * n + c → e ≡ c
      column_unique i w = let q : i ≡ k = row_unique n i k e c l hc w in omega (arith, w, ap (λ (z : ℕ). z * n) q)

  -- the coefficient's value of stage one in row m
  abbrev between : ℕ → ℤ
  between m = clip_coeff r (round_shift ((stage_one_sum t n old m c +ℤ (pos 0 -ℤ t k m) *ℤ old k c) +ℤ t k m *ℤ v) 7)

  one_new : (m : ℕ) → intermediate t n r new m c ≡ between m
  unfolding intermediate stage_one_value
  one_new m = ap (λ (z : ℤ). clip_coeff r (round_shift z 7)) (one_same m)

  -- ---- stage two
  pub edited_sample : (m j : ℕ)
      → edited_by t n r s d (k * n + c) v m j
      ≡ round_shift ((stage_two_sum t n (intermediate t n r old) m j +ℤ (pos 0 -ℤ t c j) *ℤ intermediate t n r old m c) +ℤ t c j *ℤ between m) s
  unfolding edited_by stage_two stage_two_sum transform_line
  edited_sample m j =
      ap (λ (z : ℤ). round_shift z s)
      (sum_replaced n c (λ e. t e j *ℤ intermediate t n r old m e) (λ e. t e j *ℤ intermediate t n r new m e) hc (λ e l h. ap (λ (z : ℤ). t e j *ℤ z) (one_other m e l h))
      ∙ ap (λ (z : ℤ). stage_two_sum t n (intermediate t n r old) m j +ℤ (t c j *ℤ z -ℤ t c j *ℤ intermediate t n r old m c)) (one_new m)
      ∙ rest_is (stage_two_sum t n (intermediate t n r old) m j) (t c j) (intermediate t n r old m c) (between m))
