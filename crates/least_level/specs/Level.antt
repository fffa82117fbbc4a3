-- Which level gives a coefficient: scaling asked backwards. H.265, clause 8.6.3.
-- f is the scaling of one level, whatever its numbers; r the range R; x the coefficient that is given.
--   Gives f r x v          the level v lies in the range and scales to x
--   LeastLevel f r x v     v gives x, and no level that gives x is of smaller size
--   gives f r x v          Gives as a test
--   least_size f r x        the least of the sizes 0 .. 2^R of which a level gives x, and 2^R + 1 where there is none
--   level_missing f r x     no level in the range gives x
--   least_level f r x       the level of that size
--   Scales f               what f has in common whatever its numbers: it keeps the order, and 0 scales to 0
use Rattle.std.specs.Prelude.{◌≡◌, Bool, false, not, ◌&&◌, ◌||◌, cond, ℕ, suc, ◌^◌, ◌≤◌, eqb, ltb, ℤ, pos, negsuc, neg_ℤ, nat_abs, ◌≤ℤ◌}
use Rattle.integers.specs.Search.{first_where}
use Rattle.h265.specs.Range.{outside_range}

unfoldable pub equal : ℤ → ℤ → Bool
equal (pos a) (pos b) = eqb a b
equal (pos a) (negsuc b) = false
equal (negsuc a) (pos b) = false
equal (negsuc a) (negsuc b) = eqb a b

pub record Gives (f : ℤ → ℤ) (r : ℕ) (x v : ℤ) : Type 0 where
  pub inside : outside_range r v ≡ false
  pub scales : f v ≡ x

pub record LeastLevel (f : ℤ → ℤ) (r : ℕ) (x v : ℤ) : Type 0 where
  pub gives : Gives f r x v
  pub least : (w : ℤ) → Gives f r x w → nat_abs v ≤ nat_abs w

unfoldable pub gives : (ℤ → ℤ) → ℕ → ℤ → ℤ → Bool
gives f r x v = not (outside_range r v) && equal (f v) x

unfoldable pub least_size : (ℤ → ℤ) → ℕ → ℤ → ℕ
least_size f r x = first_where (suc (2 ^ r)) (λ k. gives f r x (pos k) || gives f r x (neg_ℤ (pos k)))

unfoldable pub level_missing : (ℤ → ℤ) → ℕ → ℤ → Bool
level_missing f r x = not (ltb (least_size f r x) (suc (2 ^ r)))

unfoldable pub least_level : (ℤ → ℤ) → ℕ → ℤ → ℤ
least_level f r x =
    let k : ℕ = least_size f r x in
    cond (gives f r x (pos k)) (pos k) (neg_ℤ (pos k))

pub record Scales (f : ℤ → ℤ) : Type 0 where
  pub mono : (u v : ℤ) → u ≤ℤ v → f u ≤ℤ f v
  pub zero : f (pos 0) ≡ pos 0
