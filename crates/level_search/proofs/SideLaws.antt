-- The search over the sizes on the coefficient's side of zero finds what the definition asks over all levels.
--   first_hit          the first of a rising test is at most any hit, and is one
--   reaches_mono, reaches_below   a larger size reaches where a smaller one does, and a smaller one fails where a larger one does
--   Ranged p r         the numbers' ends are those of the range
--   nearest_given      where a level gives x, the nearest does and is no larger
--   nearest_least      where the nearest scales to x, it is the level of least size
--   nearest-missing    where it does not, there is none
use mathlib.Core.Path.{◌≡◌, refl, ap, subst}
use mathlib.Core.Bool.{Bool, true, false, not, cond}
use Prim.Native.Nat.{ℕ, suc, ◌+◌, ◌^◌, ◌≤◌, ◌<◌}
use native.Mathlib.Omega.{arith}
use borrow.Author.Tests.{ltb-true, ltb-false, not-true}
use lib.Dec.{ltb}
use lib.Pow.{pow_pos}
use lib.IntN.{ℤ, pos, negsuc, neg_ℤ, nat_abs}
use lib.Signed.{lt_z, ◌≤ℤ◌, ≤ℤ_refl, clash_ℤ}
use Rattle.integers.specs.Search.{first_where}
use Rattle.integers.proofs.LinearLaws.{pos_part, neg_part, parts_add, parts_neg, le_in, le_out}
use Rattle.integers.proofs.OrderLaws.{≤ℤ_antisym, ≤ℤ_trans}
use Rattle.integers.proofs.MachineLaws.{abs_neg, lt_z_true, lt_z_false, lt_z_of_le}
use Rattle.integers.proofs.SearchLaws.{first_where_first}
use Rattle.h265.specs.Range.{coeff_min, coeff_max, outside_range}
use Rattle.h265.proofs.RangeLaws.{outside_range_false}
use Rattle.parameters.specs.declared.DequantParams.{DequantParams}
use Rattle.least_level.specs.Level.{Gives, LeastLevel, level_missing, Scales}
use Rattle.level_search.specs.Work.{sided, side_end, reaches, nearest_size, nearest}
use Rattle.least_level.proofs.LevelLaws.{clash, inside_range, inside_size, missing-all}

-- ---- the first of a rising test
module _ (e : ℕ) (p : ℕ → Bool) (Hit : ℕ → Type 0)
    (reach : (j : ℕ) → Hit j → p j ≡ true) (squeeze : (k j : ℕ) → k ≤ j → p k ≡ true → Hit j → Hit k) where
  pub first_hit : (j : ℕ) → j ≤ e → Hit j → (first_where e p ≤ j) × Hit (first_where e p)
  first_hit j l h = (first, by_end (ltb (first_where e p) e) refl)
    where
      by_test : (t : Bool) → ltb j (first_where e p) ≡ t → first_where e p ≤ j
      by_test true d = clash ((first_where_first e p).before.at j (ltb-true j (first_where e p) d)) (reach j h)
      by_test false d = ltb-false j (first_where e p) d

      first : first_where e p ≤ j
      first = by_test (ltb j (first_where e p)) refl

      by_end : (t : Bool) → ltb (first_where e p) e ≡ t → Hit (first_where e p)
      by_end true d = squeeze (first_where e p) j first ((first_where_first e p).holds (ltb-true (first_where e p) e d)) h
      by_end false d = subst Hit (let q : j ≡ first_where e p = omega (arith, first, ltb-false (first_where e p) e d) in q) h

-- ---- the sizes on one side
neg_order : (k j : ℕ) → k ≤ j → neg_ℤ (pos j) ≤ℤ neg_ℤ (pos k)
neg_order k j h = le_out (neg_ℤ (pos j)) (neg_ℤ (pos k)) (omega (arith, parts_neg (pos j), parts_neg (pos k)))

module _ (f : ℤ → ℤ) (s : Scales f) (x : ℤ) where
  pub reaches_mono : (k j : ℕ) → k ≤ j → reaches f x k ≡ true → reaches f x j ≡ true
  unfolding reaches sided
  reaches_mono k j h = by_side (lt_z x (pos 0))
    where
      by_side : (t : Bool)
          → cond t (not (lt_z x (f (cond t (neg_ℤ (pos k)) (pos k))))) (not (lt_z (f (cond t (neg_ℤ (pos k)) (pos k))) x)) ≡ true
          → cond t (not (lt_z x (f (cond t (neg_ℤ (pos j)) (pos j))))) (not (lt_z (f (cond t (neg_ℤ (pos j)) (pos j))) x)) ≡ true
      by_side true e =
          ap not (lt_z_of_le {x = x} {y = f (neg_ℤ (pos j))} (≤ℤ_trans (s.mono (neg_ℤ (pos j)) (neg_ℤ (pos k)) (neg_order k j h)) (lt_z_false {x = x} {y = f (neg_ℤ (pos k))} (not-true _ e))))
      by_side false e =
          ap not (lt_z_of_le {x = f (pos j)} {y = x} (≤ℤ_trans (lt_z_false {x = f (pos k)} {y = x} (not-true _ e)) (s.mono (pos k) (pos j) (le_out (pos k) (pos j) (omega arith)))))

  pub reaches_below : (k j : ℕ) → k ≤ j → reaches f x j ≡ false → reaches f x k ≡ false
  reaches_below k j h e = by_test (reaches f x k) refl
    where
      by_test : (t : Bool) → reaches f x k ≡ t → t ≡ false
      by_test true d = clash e (reaches_mono k j h d)
      by_test false d = refl

  reaches_hit : (j : ℕ) → f (sided x j) ≡ x → reaches f x j ≡ true
  unfolding reaches
  reaches_hit j h = rw (h, lt_z_of_le (≤ℤ_refl x)) (by_side (lt_z x (pos 0)))
    where
      by_side : (t : Bool) → cond t true true ≡ true
      by_side true = refl
      by_side false = refl

  reaches_squeeze : (k j : ℕ) → k ≤ j → reaches f x k ≡ true → f (sided x j) ≡ x → f (sided x k) ≡ x
  unfolding reaches sided
  reaches_squeeze k j h = by_side (lt_z x (pos 0))
    where
      by_side : (t : Bool)
          → cond t (not (lt_z x (f (cond t (neg_ℤ (pos k)) (pos k))))) (not (lt_z (f (cond t (neg_ℤ (pos k)) (pos k))) x)) ≡ true
          → f (cond t (neg_ℤ (pos j)) (pos j)) ≡ x → f (cond t (neg_ℤ (pos k)) (pos k)) ≡ x
      by_side true e d =
          ≤ℤ_antisym (lt_z_false (not-true _ e)) (rw d at (s.mono (neg_ℤ (pos j)) (neg_ℤ (pos k)) (neg_order k j h)))
      by_side false e d =
          ≤ℤ_antisym (rw d at (s.mono (pos k) (pos j) (le_out (pos k) (pos j) (omega arith)))) (lt_z_false (not-true _ e))

inside_above : (r a : ℕ) → outside_range r (pos a) ≡ false → a < 2 ^ r
unfolding coeff_max
inside_above r a e = omega (arith, le_in (outside_range_false r (pos a) e).1, parts_add (pos (2 ^ r)) (neg_ℤ (pos 1)))

-- ---- the numbers of a block
pub record Ranged (p : DequantParams) (r : ℕ) : Type 0 where
  pub least : p.clip_min ≡ coeff_min r
  pub most : p.clip_max ≡ coeff_max r

abs_coeff_min : (r : ℕ) → nat_abs (coeff_min r) ≡ 2 ^ r
unfolding coeff_min
abs_coeff_min r = abs_neg (pos (2 ^ r))

abs_coeff_max : (r : ℕ) → suc (nat_abs (coeff_max r)) ≡ 2 ^ r
unfolding coeff_max
abs_coeff_max r = by_sign (coeff_max r) (omega (arith, pow_pos r, parts_add (pos (2 ^ r)) (neg_ℤ (pos 1))))
  where
    by_sign : (z : ℤ) → (pos_part z + 1 ≡ 2 ^ r + neg_part z) × (neg_part z ≤ pos_part z) → suc (nat_abs z) ≡ 2 ^ r
    by_sign (pos n) h = omega arith
    by_sign (negsuc n) h = omega arith

module _ (p : DequantParams) (r : ℕ) (d : Ranged p r) (f : ℤ → ℤ) (s : Scales f) (x : ℤ) where
  -- a level that gives x, or 0 in its stead where it stands on the other side
  record Hit (w : ℤ) : Type 0 where
    pub size : ℕ
    pub inside : size ≤ side_end p x
    pub small : size ≤ nat_abs w
    pub scales : f (sided x size) ≡ x

  hit_below : lt_z x (pos 0) ≡ true → (w : ℤ) → Gives f r x w → Hit w
  unfolding sided side_end
  hit_below e (pos a) g =
      clash_ℤ (lt_z_true e) (rw (s.zero, g.scales) at (s.mono (pos 0) (pos a) (le_out (pos 0) (pos a) (omega arith))))
  hit_below e (negsuc a) g =
      record {
        size = suc a;
        inside = rw (e, d.least) (omega (arith, abs_coeff_min r, inside_size r (negsuc a) g.inside));
        small = omega arith;
        scales = rw e g.scales;
      }

  hit_above : lt_z x (pos 0) ≡ false → (w : ℤ) → Gives f r x w → Hit w
  unfolding sided side_end
  hit_above e (pos a) g =
      record {
        size = a;
        inside = rw (e, d.most) (omega (arith, abs_coeff_max r, inside_above r a g.inside));
        small = omega arith;
        scales = rw e g.scales;
      }
  hit_above e (negsuc a) g =
      record {
        size = 0;
        inside = omega arith;
        small = omega arith;
        scales = rw (e, s.zero) (≤ℤ_antisym (lt_z_false e) (rw (s.zero, g.scales) at (s.mono (negsuc a) (pos 0) (le_out (negsuc a) (pos 0) (omega arith)))));
      }

  hit : (w : ℤ) → Gives f r x w → Hit w
  hit w g = by_side (lt_z x (pos 0)) refl
    where
      by_side : (t : Bool) → lt_z x (pos 0) ≡ t → Hit w
      by_side true e = hit_below e w g
      by_side false e = hit_above e w g

  abs_sided : (k : ℕ) → nat_abs (sided x k) ≡ k
  unfolding sided
  abs_sided k = by_side (lt_z x (pos 0))
    where
      by_side : (t : Bool) → nat_abs (cond t (neg_ℤ (pos k)) (pos k)) ≡ k
      by_side true = abs_neg (pos k)
      by_side false = refl

  pub nearest_given : (w : ℤ) → Gives f r x w → (nat_abs (nearest p f x) ≤ nat_abs w) × (f (nearest p f x) ≡ x)
  unfolding nearest nearest_size
  nearest_given w g =
      let h = hit w g in
      let k = first_hit (side_end p x) (reaches f x) (λ j. f (sided x j) ≡ x) (reaches_hit f s x) (reaches_squeeze f s x) h.size h.inside h.scales in
      (omega (arith, abs_sided (first_where (side_end p x) (reaches f x)), k.0, h.small), k.1)

  -- a size up to the end of its side is that of a level in the range
  sided-inside : (k : ℕ) → k ≤ side_end p x → outside_range r (sided x k) ≡ false
  unfolding sided side_end coeff_min coeff_max
  sided-inside k h = by_side (lt_z x (pos 0)) h
    where
      by_side : (t : Bool) → k ≤ cond t (nat_abs p.clip_min) (nat_abs p.clip_max) → outside_range r (cond t (neg_ℤ (pos k)) (pos k)) ≡ false
      by_side true l =
          inside_range r (neg_ℤ (pos k))
          (neg_order k (2 ^ r) (omega (arith, l, ap nat_abs d.least, abs_coeff_min r)))
          (le_out (neg_ℤ (pos k)) (coeff_max r) (omega (arith, pow_pos r, parts_neg (pos k), parts_add (pos (2 ^ r)) (neg_ℤ (pos 1)))))
      by_side false l =
          inside_range r (pos k)
          (le_out (coeff_min r) (pos k) (omega (arith, parts_neg (pos (2 ^ r)))))
          (le_out (pos k) (coeff_max r) (omega (arith, l, ap nat_abs d.most, abs_coeff_max r, pow_pos r, parts_add (pos (2 ^ r)) (neg_ℤ (pos 1)))))

  pub nearest_least : f (nearest p f x) ≡ x → LeastLevel f r x (nearest p f x)
  unfolding nearest nearest_size
  nearest_least e =
      record {
        gives = record { inside = sided-inside _ (first_where_first (side_end p x) (reaches f x)).inside; scales = e };
        least = λ w g. (nearest_given w g).0;
      }

  pub nearest-missing : (f (nearest p f x) ≡ x → ⊥) → level_missing f r x ≡ true
  nearest-missing h = missing-all f r x (λ v g. h (nearest_given v g).1)
