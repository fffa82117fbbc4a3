-- Laws of the level that gives a coefficient, whatever the scaling.
--   clash                           a test is not both
--   equal_sound, equal_refl         the test for equality
--   inside_range, inside_size       a number between the ends lies in the range, and is at most 2^R in size
--   zero_inside                     0 lies in every range
--   gives_sound, gives_complete     the test of a level is what it stands for
--   missing-none, -some, -all       `level_missing` says that no level of the range gives the coefficient, both ways
--   least_level_found                where one does, `least_level` gives it and is of least size
--   least_level_unique               two levels of least size that give one coefficient are equal
--   least_level_eq                   so that a level which is one is `least_level`
use mathlib.Core.Path.{◌≡◌, refl, sym, ap, subst, ◌∙◌}
use mathlib.Core.Bool.{Bool, true, false, not, ◌||◌, cond, and-eq-true_iff}
use Prim.Native.Nat.{ℕ, suc, ◌^◌, ◌≤◌}
use native.Mathlib.Omega.{arith}
use borrow.Author.Tests.{eqb-true, eq-eqb, ltb-true, ltb-false, lt-ltb, not-true, not-false}
use lib.Dec.{T, ltb}
use lib.Pow.{pow_pos}
use lib.IntN.{ℤ, pos, negsuc, neg_ℤ, nat_abs}
use lib.Signed.{◌≤ℤ◌}
use Rattle.integers.proofs.LinearLaws.{parts_add, parts_neg, le_in, le_out}
use Rattle.integers.proofs.OrderLaws.{≤ℤ_antisym}
use Rattle.integers.proofs.MachineLaws.{abs_neg, lt_z_of_le}
use Rattle.integers.proofs.SearchLaws.{First, first_where_first}
use Rattle.h265.specs.Range.{coeff_min, coeff_max, outside_range}
use Rattle.h265.proofs.RangeLaws.{outside_range_false}
use Rattle.least_level.specs.Level.{equal, Gives, LeastLevel, gives, least_size, level_missing, least_level, Scales}

pub clash : {A : Type 0} {t : Bool} → t ≡ false → t ≡ true → A
clash e d = absurd (subst T (sym d ∙ e) tt)

-- ---- tests
pub equal_sound : (a b : ℤ) → equal a b ≡ true → a ≡ b
unfolding equal
equal_sound (pos a) (pos b) e = ap pos (eqb-true a b e)
equal_sound (pos a) (negsuc b) e = clash refl e
equal_sound (negsuc a) (pos b) e = clash refl e
equal_sound (negsuc a) (negsuc b) e = ap negsuc (eqb-true a b e)

pub equal_refl : (a : ℤ) → equal a a ≡ true
unfolding equal
equal_refl (pos a) = eq-eqb a a refl
equal_refl (negsuc a) = eq-eqb a a refl

either : (s t : Bool) → t ≡ true → s || t ≡ true
either true t e = refl
either false t e = e

-- ---- the range
pub inside_range : (r : ℕ) (v : ℤ) → coeff_min r ≤ℤ v → v ≤ℤ coeff_max r → outside_range r v ≡ false
unfolding outside_range
inside_range r v h k = rw (lt_z_of_le h, lt_z_of_le k)

pub inside_size : (r : ℕ) (v : ℤ) → outside_range r v ≡ false → nat_abs v ≤ 2 ^ r
unfolding coeff_min coeff_max
inside_size r (pos n) e = omega (arith, le_in (outside_range_false r (pos n) e).1, parts_add (pos (2 ^ r)) (neg_ℤ (pos 1)))
inside_size r (negsuc n) e = omega (arith, le_in (outside_range_false r (negsuc n) e).0, parts_neg (pos (2 ^ r)))

pub zero_inside : (r : ℕ) → outside_range r (pos 0) ≡ false
unfolding coeff_min coeff_max
zero_inside r =
    inside_range r (pos 0)
    (le_out (coeff_min r) (pos 0) (omega (arith, parts_neg (pos (2 ^ r)))))
    (le_out (pos 0) (coeff_max r) (omega (arith, pow_pos r, parts_add (pos (2 ^ r)) (neg_ℤ (pos 1)))))

module _ (f : ℤ → ℤ) (r : ℕ) (x : ℤ) where
  pub gives_sound : (v : ℤ) → gives f r x v ≡ true → Gives f r x v
  unfolding gives
  gives_sound v e =
      let h = (and-eq-true_iff (not (outside_range r v)) (equal (f v) x)).0 e in
      record { inside = not-true (outside_range r v) h.0; scales = equal_sound (f v) x h.1 }

  pub gives_complete : (v : ℤ) → Gives f r x v → gives f r x v ≡ true
  unfolding gives
  gives_complete v g = rw (g.inside, g.scales) (equal_refl x)

  -- a level of size k or its negative
  abbrev size_gives : ℕ → Bool
  size_gives k = gives f r x (pos k) || gives f r x (neg_ℤ (pos k))

  size_given : (v : ℤ) → Gives f r x v → size_gives (nat_abs v) ≡ true
  size_given (pos k) g = rw (gives_complete (pos k) g)
  size_given (negsuc k) g = either (gives f r x (pos (suc k))) (gives f r x (negsuc k)) (gives_complete (negsuc k) g)

  least_size_lem : First (suc (2 ^ r)) size_gives (least_size f r x)
  unfolding least_size
  least_size_lem = first_where_first (suc (2 ^ r)) size_gives

  least_size_bound : (v : ℤ) → Gives f r x v → least_size f r x ≤ nat_abs v
  least_size_bound v g = by_test (ltb (nat_abs v) (least_size f r x)) refl
    where
      by_test : (t : Bool) → ltb (nat_abs v) (least_size f r x) ≡ t → least_size f r x ≤ nat_abs v
      by_test true e = clash (least_size_lem.before.at (nat_abs v) (ltb-true (nat_abs v) (least_size f r x) e)) (size_given v g)
      by_test false e = ltb-false (nat_abs v) (least_size f r x) e

  -- ---- whether there is one
  pub missing_some : (v : ℤ) → Gives f r x v → level_missing f r x ≡ false
  unfolding level_missing
  missing_some v g =
      rw (lt-ltb (least_size f r x) (suc (2 ^ r)) (omega (arith, least_size_bound v g, inside_size r v g.inside)))

  pub missing-none : level_missing f r x ≡ true → (v : ℤ) → Gives f r x v → ⊥
  missing-none e v g = clash (missing_some v g) e

  pub least_level_found : level_missing f r x ≡ false → LeastLevel f r x (least_level f r x)
  unfolding level_missing least_level
  least_level_found e = by_sign (gives f r x (pos (least_size f r x))) refl
    where
      found : size_gives (least_size f r x) ≡ true
      found = least_size_lem.holds (ltb-true (least_size f r x) (suc (2 ^ r)) (not-false (ltb (least_size f r x) (suc (2 ^ r))) e))

      by_sign : (t : Bool) → gives f r x (pos (least_size f r x)) ≡ t
          → LeastLevel f r x (cond t (pos (least_size f r x)) (neg_ℤ (pos (least_size f r x))))
      by_sign true d = record { gives = gives_sound (pos (least_size f r x)) d; least = λ w g. omega (arith, least_size_bound w g) }
      by_sign false d =
          record {
            gives = gives_sound (neg_ℤ (pos (least_size f r x))) (rw d at found);
            least = λ w g. omega (arith, abs_neg (pos (least_size f r x)), least_size_bound w g);
          }

  pub missing-all : ((v : ℤ) → Gives f r x v → ⊥) → level_missing f r x ≡ true
  missing-all h = by_test (level_missing f r x) refl
    where
      by_test : (t : Bool) → level_missing f r x ≡ t → t ≡ true
      by_test true e = refl
      by_test false e = absurd (h (least_level f r x) (least_level_found e).gives)

  -- ---- that there is one only
  module _ (s : Scales f) where
    -- a level and one on the other side of zero, both giving x: then 0 does
    zero_between : (u v : ℤ) → u ≤ℤ pos 0 → pos 0 ≤ℤ v → f u ≡ x → f v ≡ x → Gives f r x (pos 0)
    zero_between u v h k d e =
        record {
          inside = zero_inside r;
          scales = ≤ℤ_antisym (rw e at (s.mono (pos 0) v k)) (rw d at (s.mono u (pos 0) h));
        }

    opposite : (a b : ℕ) → LeastLevel f r x (pos a) → LeastLevel f r x (negsuc b) → ⊥
    opposite a b l k =
        let z = zero_between (negsuc b) (pos a) (le_out (negsuc b) (pos 0) (omega arith)) (le_out (pos 0) (pos a) (omega arith)) k.gives.scales l.gives.scales in
        omega (arith, k.least (pos 0) z)

    pub least_level_unique : (v w : ℤ) → LeastLevel f r x v → LeastLevel f r x w → v ≡ w
    least_level_unique (pos a) (pos b) l k =
        ap pos (omega (arith, l.least (pos b) k.gives, k.least (pos a) l.gives))
    least_level_unique (pos a) (negsuc b) l k = absurd (opposite a b l k)
    least_level_unique (negsuc a) (pos b) l k = absurd (opposite b a k l)
    least_level_unique (negsuc a) (negsuc b) l k =
        ap negsuc (omega (arith, l.least (negsuc b) k.gives, k.least (negsuc a) l.gives))

    pub least_level_eq : (v : ℤ) → LeastLevel f r x v → least_level f r x ≡ v
    least_level_eq v l = least_level_unique (least_level f r x) v (least_level_found (missing_some v l.gives)) l
