-- The exact product, and how far a residual may be from it. H.265, clause 8.6.4.2; docs/RULES.md, "Inverse transforms".
-- Letters: t the matrix, n size, b depth, x extended precision, nx column count, xs coefficients in row order, k row, c column,
-- m and j the row and column of a result.
--   exact_product t n nx xs m j   E: the double matrix product over the columns read, in whole numbers, with no rounding and no limit
--   dct_sum n, entry_sum kind n    S: the largest sum of absolute entries over one output, of the DCT and by kind
--   shift_of b x                  s2, by depth and flag
--   rounding_bound kind n b x     64 × S + 2^(6 + s2)
--   Unlimited                    no stage-one value over the columns read was limited: each lies in the range before its limit
--   Close e                      2^(7 + s2) × e(m, j) differs from E(m, j) by at most the bound, in every row and column
use Rattle.std.specs.Prelude.{◌≡◌, Bool, false, cond, List, ℕ, ◌+◌, ◌*◌, ◌^◌, ◌<◌, min, eqb, ℤ, ◌-ℤ◌, ◌*ℤ◌}
use Rattle.integers.specs.Shift.{pow2}
use Rattle.integers.specs.Sum.{sum}
use Rattle.integers.specs.Within.{Within}
use Rattle.h265.specs.Range.{transform_range, outside_range}
use Rattle.h265.specs.Transform.{block_at, stage_one_value, stage_two_shift}
use Rattle.transform_1d.specs.declared.Kind.{Kind}
use Rattle.transform_1d.specs.declared.Kind.TheVariants.{Dct, Dst}
use Rattle.transform_1d.specs.MatrixOf.{matrix_of}

-- a count above n means n
unfoldable pub exact_product : (ℕ → ℕ → ℤ) → ℕ → ℕ → List ℤ → ℕ → ℕ → ℤ
exact_product t n nx xs m j = sum (min nx n) (λ c. t c j *ℤ sum n (λ k. t k m *ℤ block_at n xs k c))

unfoldable pub dct_sum : ℕ → ℕ
dct_sum n = cond (eqb n 4) 247 (cond (eqb n 8) 479 (cond (eqb n 16) 940 1862))

unfoldable pub entry_sum : Kind → ℕ → ℕ
entry_sum Dct n = dct_sum n
entry_sum Dst n = 242

unfoldable pub shift_of : ℕ → Bool → ℕ
shift_of b x = stage_two_shift b (transform_range b x)

unfoldable pub rounding_bound : Kind → ℕ → ℕ → Bool → ℕ
rounding_bound kind n b x = 64 * entry_sum kind n + 2 ^ (6 + shift_of b x)

pub record Unlimited (kind : Kind) (n b : ℕ) (x : Bool) (nx : ℕ) (xs : List ℤ) : Type 0 where
  pub inside : (m c : ℕ) → m < n → c < n → c < nx → outside_range (transform_range b x) (stage_one_value (matrix_of kind n) n (block_at n xs) m c) ≡ false

pub record Close (kind : Kind) (n b : ℕ) (x : Bool) (nx : ℕ) (xs : List ℤ) (e : ℕ → ℕ → ℤ) : Type 0 where
  pub near : (m j : ℕ) → m < n → j < n → Within (rounding_bound kind n b x) (pow2 (7 + shift_of b x) *ℤ e m j -ℤ exact_product (matrix_of kind n) n nx xs m j)
