-- Columns of a block in row order. docs/RULES.md, "The edited block".
--   column_used n xs c         column c has a coefficient other than zero
--   column_count n xs          one past the last such column, or 0
use Rattle.std.specs.Prelude.{Bool, not, cond, List, ℕ, zero, suc, eqb, ltb, ℤ, nat_abs}
use Rattle.integers.specs.Search.{first_where}
use Rattle.h265.specs.Transform.{block_at}

unfoldable pub column_used : ℕ → List ℤ → ℕ → Bool
column_used n xs c = ltb (first_where n (λ k. not (eqb (nat_abs (block_at n xs k c)) 0))) n

-- one past the last number below k that passes a test, or 0
unfoldable pub last_where : ℕ → (ℕ → Bool) → ℕ
last_where zero p = 0
last_where (suc k) p = cond (p k) (suc k) (last_where k p)

unfoldable pub column_count : ℕ → List ℤ → ℕ
column_count n xs = last_where n (column_used n xs)
