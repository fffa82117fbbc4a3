-- Rows 9 and 19 of the table: a coefficient outside the range, among the columns that are read.
--   outside_at r n nx xs i     index i is in a column below the count, and its coefficient lies outside the range
--   first_outside r n nx xs    the first such index in row order, and n² where there is none
--   outside_refusal r x k c    why a coefficient x outside the range, in row k and column c, is refused: 19 below the range, 9 above it
--   refusal_at r n xs i        the same of index i
--   RowChecked r k xs a        the test of row k of a block, whose coefficients are xs
--   InsideChecked r n nx xs a  the test of rows 9 and 19: it refuses at the first such index, and lets a block without one pass
use Rattle.std.specs.Prelude.{Bool, ◌&&◌, cond, List, Result, ℕ, ◌*◌, ◌/◌, ◌%◌, ltb, ℤ, pos, get_or, length}
use Rattle.std.specs.Int.Signed.{lt_z}
use Rattle.integers.specs.Search.{first_where}
use Rattle.h265.specs.Range.{coeff_min, outside_range}
use Rattle.refusal.specs.declared.Refusal.{Refusal}
use Rattle.refusal.specs.Check.{Checked}
use Rattle.refusal.specs.declared.Refusal.TheVariants.{CoefficientAbove, CoefficientBelow}

unfoldable pub outside_at : ℕ → ℕ → ℕ → List ℤ → ℕ → Bool
outside_at r n nx xs i = ltb (i % n) nx && outside_range r (get_or xs i (pos 0))

unfoldable pub first_outside : ℕ → ℕ → ℕ → List ℤ → ℕ
first_outside r n nx xs = first_where (n * n) (outside_at r n nx xs)

unfoldable pub outside_refusal : ℕ → ℤ → ℕ → ℕ → Refusal
outside_refusal r x k c = cond (lt_z x (coeff_min r)) (CoefficientBelow k c) (CoefficientAbove k c)

unfoldable pub refusal_at : ℕ → ℕ → List ℤ → ℕ → Refusal
refusal_at r n xs i = outside_refusal r (get_or xs i (pos 0)) (i / n) (i % n)

abbrev pub RowChecked : ℕ → ℕ → List ℤ → Result (Unit {0}) Refusal → Type 0
RowChecked r k xs a =
    let first : ℕ = first_where (length xs) (λ c. outside_range r (get_or xs c (pos 0))) in
    Checked (ltb first (length xs)) (outside_refusal r (get_or xs first (pos 0)) k first) a

abbrev pub InsideChecked : ℕ → ℕ → ℕ → List ℤ → Result (Unit {0}) Refusal → Type 0
InsideChecked r n nx xs a =
    let first : ℕ = first_outside r n nx xs in
    Checked (ltb first (n * n)) (refusal_at r n xs first) a
