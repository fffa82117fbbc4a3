-- What the contributions come to: the statements; `proofs/ExplainLaws.antt` proves each under the name beside it.
-- Letters as in specs/Sample.antt; b depth, x extended precision. The residual and the product are over all n columns.
--   contribution_sum        the sum of the n² contributions to a sample
--   written_sum             the sum of the first n² elements of the buffer after a call
--   ContributionsSum       contributions_sum: the contributions add up to the exact product
--   ContributionsExplain   contributions_explain: where no stage-one value was limited, 2^(7 + s2) × the residual differs from their sum by at most
--                          the rounding bound
--   WrittenSum             written-sum: what a call that answered 0 has written adds up to the exact product
--   WrittenExplain         written_explain: and so 2^(7 + s2) × the residual differs by at most the bound from the sum of what was written
use Rattle.std.specs.Prelude.{◌≡◌, Bool, List, ℕ, ◌+◌, ◌*◌, ◌≤◌, ◌<◌, ℤ, pos, ◌-ℤ◌, ◌*ℤ◌, get_or}
use Rattle.integers.specs.Shift.{pow2}
use Rattle.integers.specs.Sum.{sum}
use Rattle.integers.specs.Within.{Within}
use Rattle.h265.specs.Range.{transform_range}
use Rattle.h265.specs.Transform.{row_order, residual}
use Rattle.transform_1d.specs.declared.Kind.{Kind}
use Rattle.transform_1d.specs.MatrixOf.{matrix_of}
use Rattle.rounding.specs.Exact.{exact_product, shift_of, rounding_bound, Unlimited}
use Rattle.rounding.specs.Closeness.{Setting}
use Rattle.contributions.specs.Sample.{contribution, contributed}

abbrev pub contribution_sum : Kind → ℕ → List ℤ → ℕ → ℕ → ℤ
contribution_sum kind n d m j = sum (n * n) (row_order n (contribution (matrix_of kind n) n d m j))

abbrev pub written_sum : Kind → ℕ → ℕ → ℕ → List ℤ → List ℤ → ℤ
written_sum kind n m j d out = sum (n * n) (λ i. get_or (contributed kind n m j d out).out i (pos 0))

abbrev pub ContributionsSum : Type 0
ContributionsSum = (kind : Kind) (n : ℕ) (d : List ℤ) (m j : ℕ) → contribution_sum kind n d m j ≡ exact_product (matrix_of kind n) n n d m j

abbrev pub ContributionsExplain : Type 0
ContributionsExplain =
    (kind : Kind) (n b : ℕ) (x : Bool) (d : List ℤ) (m j : ℕ) → Setting kind n b → m < n → j < n
    → Unlimited kind n b x n d
    → Within (rounding_bound kind n b x) (pow2 (7 + shift_of b x) *ℤ residual (matrix_of kind n) n b (transform_range b x) n d m j -ℤ contribution_sum kind n d m j)

abbrev pub WrittenSum : Type 0
WrittenSum =
    (kind : Kind) (n m j : ℕ) (d out : List ℤ) → (contributed kind n m j d out).answer.number ≡ 0
    → written_sum kind n m j d out ≡ exact_product (matrix_of kind n) n n d m j

abbrev pub WrittenExplain : Type 0
WrittenExplain =
    (kind : Kind) (n m j : ℕ) (d out : List ℤ) → (contributed kind n m j d out).answer.number ≡ 0
    → (b : ℕ) (x : Bool) → (8 ≤ b) × (b ≤ 16) → Unlimited kind n b x n d
    → Within (rounding_bound kind n b x) (pow2 (7 + shift_of b x) *ℤ residual (matrix_of kind n) n b (transform_range b x) n d m j -ℤ written_sum kind n m j d out)
