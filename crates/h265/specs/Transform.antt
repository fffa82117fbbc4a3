-- The inverse transform in two stages. docs/RULES.md, "Inverse transforms"; H.265, clauses 8.6.2 and 8.6.4.2.
-- Further letters: t the matrix, d the coefficients and g the intermediate as functions of row and column, k row, c column,
-- m and j the row and column of a result.
--   transform_line t n y m   one line: sum over k of T(k, m) × y(k)
--   block_at n xs            what a block in row order holds at a row and a column
--   row_order n g            g as a function of the index in row order
--   columns_read nx d        d, with columns from the column count on read as zero
--   stage_one_sum             sum over k of T(k, m) × coefficient (k, c)
--   stage_one_value           that sum + 64, shifted by 7: before the limit
--   intermediate            the value limited to the range
--   stage_two_sum             sum over c of T(c, j) × intermediate (m, c)
--   stage_two_shift b r       s2 = R + 5 - B
--   stage_two                that sum + 2^(s2-1), shifted by s2; no limit after it
--   residual                both stages over the coefficients of a block, for a column count
use Rattle.std.specs.Prelude.{cond, List, ℕ, ◌+◌, ◌-◌, ◌*◌, ◌/◌, ◌%◌, ltb, ℤ, pos, ◌*ℤ◌, get_or}
use Rattle.integers.specs.Shift.{round_shift}
use Rattle.integers.specs.Sum.{sum}
use Rattle.h265.specs.Range.{clip_coeff}

unfoldable pub transform_line : (ℕ → ℕ → ℤ) → ℕ → (ℕ → ℤ) → ℕ → ℤ
transform_line t n y m = sum n (λ k. t k m *ℤ y k)

unfoldable pub block_at : ℕ → List ℤ → ℕ → ℕ → ℤ
block_at n xs k c = get_or xs (k * n + c) (pos 0)

unfoldable pub row_order : ℕ → (ℕ → ℕ → ℤ) → ℕ → ℤ
row_order n g i = g (i / n) (i % n)

unfoldable pub columns_read : ℕ → (ℕ → ℕ → ℤ) → ℕ → ℕ → ℤ
columns_read nx d k c = cond (ltb c nx) (d k c) (pos 0)

unfoldable pub stage_one_sum : (ℕ → ℕ → ℤ) → ℕ → (ℕ → ℕ → ℤ) → ℕ → ℕ → ℤ
stage_one_sum t n d m c = transform_line t n (λ k. d k c) m

unfoldable pub stage_one_value : (ℕ → ℕ → ℤ) → ℕ → (ℕ → ℕ → ℤ) → ℕ → ℕ → ℤ
stage_one_value t n d m c = round_shift (stage_one_sum t n d m c) 7

unfoldable pub intermediate : (ℕ → ℕ → ℤ) → ℕ → ℕ → (ℕ → ℕ → ℤ) → ℕ → ℕ → ℤ
intermediate t n r d m c = clip_coeff r (stage_one_value t n d m c)

unfoldable pub stage_two_sum : (ℕ → ℕ → ℤ) → ℕ → (ℕ → ℕ → ℤ) → ℕ → ℕ → ℤ
stage_two_sum t n g m j = transform_line t n (λ c. g m c) j

unfoldable pub stage_two_shift : ℕ → ℕ → ℕ
stage_two_shift b r = r + 5 - b

unfoldable pub stage_two : (ℕ → ℕ → ℤ) → ℕ → ℕ → (ℕ → ℕ → ℤ) → ℕ → ℕ → ℤ
stage_two t n s2 g m j = round_shift (stage_two_sum t n g m j) s2

unfoldable pub residual : (ℕ → ℕ → ℤ) → ℕ → ℕ → ℕ → ℕ → List ℤ → ℕ → ℕ → ℤ
residual t n b r nx xs m j =
    stage_two t n (stage_two_shift b r) (intermediate t n r (columns_read nx (block_at n xs))) m j
