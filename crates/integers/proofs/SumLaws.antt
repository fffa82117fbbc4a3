-- Laws of sums over a range; no other law opens the definition.
--   sum_zero, sum_suc        no term; one term more, at the end
--   sum_cong, sum-none       equal terms; terms that are all zero
--   sum-short                terms that are zero from k on may be left out
--   sum_add, sum_scale       a sum of sums; a common factor
--   sum_bound                n terms of size at most b
--   sum_neg, sum_pairs       a sum of negations; a sum by its even and its odd terms
--   sum-append, sum_swap     the first a terms and the next b; a double sum, the other way round
use mathlib.Core.Path.{◌≡◌, refl, sym, ap, ap₂, ◌∙◌}
use Prim.Native.Nat.{ℕ, zero, suc, ◌+◌, ◌*◌, ◌≤◌, ◌<◌}
use native.Mathlib.Nat.{suc-mul, add-zero, add-suc}
use native.Mathlib.Decide.{dec_lt}
use native.Mathlib.Omega.{arith}
use lib.IntN.{ℤ, pos, neg_ℤ, ◌+ℤ◌, ◌*ℤ◌, +ℤ_idr}
use Rattle.integers.specs.Sum.{sum}
use Rattle.integers.specs.Within.{Within}
use Rattle.integers.proofs.LinearLaws.{split, ring, diff_ext}
use Rattle.integers.proofs.MachineLaws.{abs_add}

pub sum_zero : (f : ℕ → ℤ) → sum 0 f ≡ pos 0
unfolding sum
sum_zero f = refl

pub sum_suc : (n : ℕ) (f : ℕ → ℤ) → sum (suc n) f ≡ sum n f +ℤ f n
unfolding sum
sum_suc n f = refl

pub sum_cong : (n : ℕ) (f g : ℕ → ℤ) → ((k : ℕ) → k < n → f k ≡ g k) → sum n f ≡ sum n g
unfolding sum
sum_cong zero f g h = refl
sum_cong (suc n) f g h = ap₂ ◌+ℤ◌ (sum_cong n f g (λ k l. h k (omega arith))) (h n (omega arith))

pub sum-none : (n : ℕ) (f : ℕ → ℤ) → ((k : ℕ) → k < n → f k ≡ pos 0) → sum n f ≡ pos 0
unfolding sum
sum-none zero f h = refl
sum-none (suc n) f h = ap₂ ◌+ℤ◌ (sum-none n f (λ k l. h k (omega arith))) (h n (omega arith))

pub sum-short : (n k : ℕ) (f : ℕ → ℤ) → k ≤ n → ((i : ℕ) → k ≤ i → i < n → f i ≡ pos 0) → sum n f ≡ sum k f
unfolding sum
sum-short zero k f l h = ap (λ (j : ℕ). sum j f) (let e : 0 ≡ k = omega arith in e)
sum-short (suc n) k f l h =
    elim (dec_lt n k) [
      | yes a ↦ ap (λ (j : ℕ). sum j f) (let e : suc n ≡ k = omega arith in e)
      | no a ↦ ap₂ ◌+ℤ◌ (sum-short n k f (omega arith) (λ i p q. h i p (omega arith))) (h n (omega arith) (omega arith)) ∙ +ℤ_idr (sum k f)
    ]

pub sum_add : (n : ℕ) (f g : ℕ → ℤ) → sum n (λ k. f k +ℤ g k) ≡ sum n f +ℤ sum n g
unfolding sum
sum_add zero f g = refl
sum_add (suc n) f g = ap (λ (z : ℤ). z +ℤ (f n +ℤ g n)) (sum_add n f g) ∙ regroup (sum n f) (sum n g) (f n) (g n)
  where
    regroup : (a b c d : ℤ) → (a +ℤ b) +ℤ (c +ℤ d) ≡ (a +ℤ c) +ℤ (b +ℤ d)
    regroup a b c d = rw (← split a, ← split b, ← split c, ← split d) (simp ring (diff_ext _ _ _ _ (omega arith)))

pub sum_scale : (c : ℤ) (n : ℕ) (f : ℕ → ℤ) → sum n (λ k. c *ℤ f k) ≡ c *ℤ sum n f
unfolding sum
sum_scale c zero f = rw (← split c) (simp ring (diff_ext _ _ _ _ (omega arith)))
sum_scale c (suc n) f = ap (λ (z : ℤ). z +ℤ c *ℤ f n) (sum_scale c n f) ∙ distrib (sum n f) (f n)
  where
    distrib : (a b : ℤ) → c *ℤ a +ℤ c *ℤ b ≡ c *ℤ (a +ℤ b)
    distrib a b = rw (← split c, ← split a, ← split b) (simp ring (diff_ext _ _ _ _ (omega arith)))

pub sum_bound : {b : ℕ} (n : ℕ) (f : ℕ → ℤ) → ((k : ℕ) → k < n → Within b (f k)) → Within (n * b) (sum n f)
unfolding sum
sum_bound zero f h = record { within = omega arith }
sum_bound {b} (suc n) f h =
    record { within = omega (arith, abs_add (sum n f) (f n), (sum_bound n f (λ k l. h k (omega arith))).within, (h n (omega arith)).within, suc-mul n b) }

pub sum_neg : (n : ℕ) (f : ℕ → ℤ) → sum n (λ k. neg_ℤ (f k)) ≡ neg_ℤ (sum n f)
unfolding sum
sum_neg zero f = refl
sum_neg (suc n) f = ap (λ (z : ℤ). z +ℤ neg_ℤ (f n)) (sum_neg n f) ∙ regroup (sum n f) (f n)
  where
    regroup : (a b : ℤ) → neg_ℤ a +ℤ neg_ℤ b ≡ neg_ℤ (a +ℤ b)
    regroup a b = rw (← split a, ← split b) (simp ring (diff_ext _ _ _ _ (omega arith)))

pub sum_pairs : (n : ℕ) (f : ℕ → ℤ) → sum (2 * n) f ≡ sum n (λ k. f (2 * k)) +ℤ sum n (λ k. f (2 * k + 1))
unfolding sum
sum_pairs zero f = refl
sum_pairs (suc n) f =
    let e : 2 * suc n ≡ suc (suc (2 * n)) = omega arith in
    let o : suc (2 * n) ≡ 2 * n + 1 = omega arith in
    ap (λ (j : ℕ). sum j f) e
    ∙ ap₂ (λ (z : ℤ) (j : ℕ). z +ℤ f (2 * n) +ℤ f j) (sum_pairs n f) o
    ∙ regroup (sum n (λ k. f (2 * k))) (sum n (λ k. f (2 * k + 1))) (f (2 * n)) (f (2 * n + 1))
  where
    regroup : (a b x y : ℤ) → a +ℤ b +ℤ x +ℤ y ≡ (a +ℤ x) +ℤ (b +ℤ y)
    regroup a b x y = rw (← split a, ← split b, ← split x, ← split y) (simp ring (diff_ext _ _ _ _ (omega arith)))

pub sum-append : (a b : ℕ) (f : ℕ → ℤ) → sum (a + b) f ≡ sum a f +ℤ sum b (λ i. f (a + i))
sum-append a zero f =
    ap (λ (k : ℕ). sum k f) (add-zero a) ∙ sym (+ℤ_idr (sum a f)) ∙ sym (ap (λ (z : ℤ). sum a f +ℤ z) (sum_zero (λ i. f (a + i))))
sum-append a (suc b) f =
    ap (λ (k : ℕ). sum k f) (add-suc a b) ∙ sum_suc (a + b) f ∙ ap (λ (z : ℤ). z +ℤ f (a + b)) (sum-append a b f)
    ∙ regroup (sum a f) (sum b (λ i. f (a + i))) (f (a + b)) ∙ sym (ap (λ (z : ℤ). sum a f +ℤ z) (sum_suc b (λ i. f (a + i))))
  where
    regroup : (x y z : ℤ) → (x +ℤ y) +ℤ z ≡ x +ℤ (y +ℤ z)
    regroup x y z = rw (← split x, ← split y, ← split z) (simp ring (diff_ext _ _ _ _ (omega arith)))

pub sum_swap : (n m : ℕ) (g : ℕ → ℕ → ℤ) → sum n (λ k. sum m (λ c. g k c)) ≡ sum m (λ c. sum n (λ k. g k c))
sum_swap zero m g = sum_zero (λ k. sum m (λ c. g k c)) ∙ sym (sum-none m (λ c. sum 0 (λ k. g k c)) (λ c l. sum_zero (λ k. g k c)))
sum_swap (suc n) m g =
    sum_suc n (λ k. sum m (λ c. g k c)) ∙ ap (λ (z : ℤ). z +ℤ sum m (λ c. g n c)) (sum_swap n m g)
    ∙ sym (sum_add m (λ c. sum n (λ k. g k c)) (λ c. g n c))
    ∙ sym (sum_cong m (λ c. sum (suc n) (λ k. g k c)) (λ c. sum n (λ k. g k c) +ℤ g n c) (λ c l. sum_suc n (λ k. g k c)))
