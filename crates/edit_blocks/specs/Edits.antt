-- Which values of one coefficient give a block's residual the target at every wanted sample. H.265, clause 8.6.4.2.
-- Letters: n size, b depth, x extended precision, d coefficients in row order, i index of a coefficient, v value, m and j row and
-- column of a sample; the residual reads all n columns.
--   is_wanted wanted i    the sample at index i is wanted: its byte is other than 0
--   HasTarget            a residual has the target at every wanted sample
--   has_target            the same as a test
--   edited_residual       the residual of the block with v in place of the coefficient at index i
--   gives_target          that residual has the target at every wanted sample
--   least_edit, most_edit  the least and the most value of the range that do so, asked of every value; 1 and 0 where none does
use Rattle.std.specs.Prelude.{◌≡◌, Bool, true, not, ◌&&◌, ◌||◌, List, ℕ, ◌+◌, ◌*◌, ◌<◌, eqb, ltb, ℤ, pos, get_or, set}
use Rattle.std.specs.Int.Signed.{lt_z}
use Rattle.integers.specs.Search.{first_where}
use Rattle.h265.specs.Range.{transform_range}
use Rattle.h265.specs.Transform.{block_at, row_order, residual}
use Rattle.transform_1d.specs.declared.Kind.{Kind}
use Rattle.transform_1d.specs.MatrixOf.{matrix_of}
use Rattle.edit_values.specs.Values.{least_where, most_where}

unfoldable pub is_wanted : List ℕ → ℕ → Bool
is_wanted wanted i = not (eqb (get_or wanted i 0) 0)

pub record HasTarget (n : ℕ) (e : ℕ → ℕ → ℤ) (target : List ℤ) (wanted : List ℕ) : Type 0 where
  pub at : (m j : ℕ) → m < n → j < n → is_wanted wanted (m * n + j) ≡ true → e m j ≡ block_at n target m j

unfoldable pub differs : ℤ → ℤ → Bool
differs a b = lt_z a b || lt_z b a

unfoldable pub misses_at : ℕ → (ℕ → ℕ → ℤ) → List ℤ → List ℕ → ℕ → Bool
misses_at n e target wanted i = is_wanted wanted i && differs (row_order n e i) (get_or target i (pos 0))

-- no sample misses
unfoldable pub has_target : ℕ → (ℕ → ℕ → ℤ) → List ℤ → List ℕ → Bool
has_target n e target wanted = not (ltb (first_where (n * n) (misses_at n e target wanted)) (n * n))

unfoldable pub edited_residual : Kind → ℕ → ℕ → Bool → List ℤ → ℕ → ℤ → ℕ → ℕ → ℤ
edited_residual kind n b x d i v = residual (matrix_of kind n) n b (transform_range b x) n (set d i v)

unfoldable pub gives_target : Kind → ℕ → ℕ → Bool → List ℤ → List ℤ → List ℕ → ℕ → ℤ → Bool
gives_target kind n b x d target wanted i v = has_target n (edited_residual kind n b x d i v) target wanted

unfoldable pub least_edit : Kind → ℕ → ℕ → Bool → List ℤ → List ℤ → List ℕ → ℕ → ℤ
least_edit kind n b x d target wanted i = least_where (transform_range b x) (gives_target kind n b x d target wanted i)

unfoldable pub most_edit : Kind → ℕ → ℕ → Bool → List ℤ → List ℤ → List ℕ → ℕ → ℤ
most_edit kind n b x d target wanted i = most_where (transform_range b x) (gives_target kind n b x d target wanted i)
