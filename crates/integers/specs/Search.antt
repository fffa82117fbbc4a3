-- The least number below a bound that passes a test.
--   first_where k p   the least i < k with p i, and k where there is none
use Rattle.std.specs.Prelude.{Bool, cond, ℕ, zero, suc, ltb}

unfoldable pub first_where : ℕ → (ℕ → Bool) → ℕ
first_where zero p = 0
first_where (suc k) p = cond (ltb (first_where k p) k) (first_where k p) (cond (p k) k (suc k))
