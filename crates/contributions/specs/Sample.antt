-- What each coefficient adds to one sample of the residual, refused calls included: rows 1, 4, 6, 7, 8 of docs/RULES.md's table.
-- Letters: t the matrix, n size, d coefficients in row order, m and j the row and column of the sample, k and c those of a coefficient; out the buffer as lent.
--   contribution t n d m j k c   T(k, m) × T(c, j) × coefficient (k, c)
--   sample_ladder                 the conditions by kind, size, place and lengths, lowest number first
--   contributed                  what a call hands back: its answer, and the buffer with the n² numbers in row order
use Rattle.std.specs.Prelude.{◌||◌, cond, List, ℕ, ◌*◌, leb, ℤ, ◌*ℤ◌, length}
use Rattle.integers.specs.Lists.{overwrite}
use Rattle.h265.specs.Transform.{block_at, row_order}
use Rattle.refusal.specs.declared.Refusal.{Refusal}
use Rattle.refusal.specs.declared.Refusal.TheVariants.{SizeInvalid, DstSizeInvalid, InputTooShort, OutputTooShort, PlaceOutside}
use Rattle.refusal.specs.Condition.{size_refused, block_refused}
use Rattle.refusal.specs.Written.{Written, left, wrote}
use Rattle.transform_1d.specs.declared.Kind.{Kind}
use Rattle.transform_1d.specs.Kinds.{dst_refused}
use Rattle.transform_1d.specs.MatrixOf.{matrix_of}

unfoldable pub contribution : (ℕ → ℕ → ℤ) → ℕ → List ℤ → ℕ → ℕ → ℕ → ℕ → ℤ
contribution t n d m j k c = (t k m *ℤ t c j) *ℤ block_at n d k c

-- by the lengths of the buffers; `stop` makes something of a refusal
unfoldable pub sample_ladder : {A : Type 0} → (Refusal → A) → A → Kind → ℕ → ℕ → ℕ → ℕ → ℕ → A
sample_ladder stop go kind n m j coeff out =
    cond (size_refused n) (stop SizeInvalid)
    (cond (dst_refused kind n) (stop DstSizeInvalid)
    (cond (block_refused n coeff) (stop InputTooShort)
    (cond (block_refused n out) (stop OutputTooShort)
    (cond (leb n m || leb n j) (stop PlaceOutside) go))))

unfoldable pub contributed : Kind → ℕ → ℕ → ℕ → List ℤ → List ℤ → Written
contributed kind n m j d out =
    sample_ladder (left out) (wrote (overwrite (n * n) (row_order n (contribution (matrix_of kind n) n d m j)) out)) kind n m j (length d) (length out)
