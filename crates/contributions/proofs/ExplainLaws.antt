-- The statements of specs/Explain.antt.
--   contributions_sum, contributions_explain, written-sum, written_explain   one for each
use mathlib.Core.Path.{◌≡◌, ap, ◌∙◌}
use mathlib.Core.List.{List}
use Prim.Native.Nat.{ℕ, ◌+◌, ◌*◌, min}
use native.Mathlib.Omega.{arith}
use lib.IntN.{ℤ, pos, ◌-ℤ◌, ◌*ℤ◌}
use lib.ListN.{get_or}
use Rattle.integers.specs.Shift.{pow2}
use Rattle.integers.specs.Sum.{sum}
use Rattle.integers.proofs.BoundLaws.{within_eq}
use Rattle.integers.proofs.ListsLaws.{overwrite-get_or}
use Rattle.integers.proofs.LinearLaws.{split, ring, diff_ext}
use Rattle.integers.proofs.SumLaws.{sum_cong, sum_scale, sum_swap}
use Rattle.h265.specs.Range.{transform_range}
use Rattle.h265.specs.Transform.{block_at, row_order, residual}
use Rattle.transform_1d.specs.declared.Kind.{Kind}
use Rattle.transform_1d.specs.MatrixOf.{matrix_of}
use Rattle.rounding.specs.Exact.{exact_product, shift_of}
use Rattle.rounding.proofs.ClosenessLaws.{residual_is_close}
use Rattle.contributions.specs.Sample.{contribution, contributed}
use Rattle.contributions.specs.Explain.{contribution_sum, written_sum, ContributionsSum, ContributionsExplain, WrittenSum, WrittenExplain}
use Rattle.contributions.proofs.SampleLaws.{sample_wrote}
use Rattle.contributions.proofs.BlockSumLaws.{sum_rows}

module _ (t : ℕ → ℕ → ℤ) (n : ℕ) (d : List ℤ) (m j : ℕ) where
  -- the contributions of one column of coefficients
  column-sum : (c : ℕ) → sum n (λ k. contribution t n d m j k c) ≡ t c j *ℤ sum n (λ k. t k m *ℤ block_at n d k c)
  unfolding contribution
  column-sum c =
      sum_cong n (λ k. (t k m *ℤ t c j) *ℤ block_at n d k c) (λ k. t c j *ℤ (t k m *ℤ block_at n d k c))
      (λ k l. regroup (t k m) (t c j) (block_at n d k c))
      ∙ sum_scale (t c j) n (λ k. t k m *ℤ block_at n d k c)
    where
      regroup : (x y z : ℤ) → (x *ℤ y) *ℤ z ≡ y *ℤ (x *ℤ z)
      regroup x y z = rw (← split x, ← split y, ← split z) (simp ring (diff_ext _ _ _ _ (omega arith)))

  matrix_sum : sum (n * n) (row_order n (contribution t n d m j)) ≡ exact_product t n n d m j
  unfolding exact_product
  matrix_sum =
      let f : ℕ → ℤ = λ c. t c j *ℤ sum n (λ k. t k m *ℤ block_at n d k c) in
      sum_rows n n (contribution t n d m j)
      ∙ sum_swap n n (contribution t n d m j)
      ∙ sum_cong n (λ c. sum n (λ k. contribution t n d m j k c)) f (λ c l. column-sum c)
      ∙ ap (λ (k : ℕ). sum k f) (let e : n ≡ min n n = omega arith in e)

pub contributions_sum : ContributionsSum
contributions_sum kind n d m j = matrix_sum (matrix_of kind n) n d m j

pub contributions_explain : ContributionsExplain
contributions_explain kind n b x d m j s hm hj u =
    within_eq (ap (λ (z : ℤ). pow2 (7 + shift_of b x) *ℤ residual (matrix_of kind n) n b (transform_range b x) n d m j -ℤ z) (contributions_sum kind n d m j))
    ((residual_is_close kind n b x n d s u).near m j hm hj)

-- what was written are the contributions
written_is : (kind : Kind) (n m j : ℕ) (d out : List ℤ) → (contributed kind n m j d out).answer.number ≡ 0 → written_sum kind n m j d out ≡ contribution_sum kind n d m j
written_is kind n m j d out z =
    let g : ℕ → ℤ = row_order n (contribution (matrix_of kind n) n d m j) in
    sum_cong (n * n) (λ i. get_or (contributed kind n m j d out).out i (pos 0)) g
    (λ i l. ap (λ (xs : List ℤ). get_or xs i (pos 0)) (sample_wrote kind n m j d out z).1 ∙ overwrite-get_or (n * n) g out i (pos 0) l)

pub written-sum : WrittenSum
written-sum kind n m j d out z = written_is kind n m j d out z ∙ contributions_sum kind n d m j

pub written_explain : WrittenExplain
written_explain kind n m j d out z b x h u =
    let a = (sample_wrote kind n m j d out z).0 in
    within_eq (ap (λ (y : ℤ). pow2 (7 + shift_of b x) *ℤ residual (matrix_of kind n) n b (transform_range b x) n d m j -ℤ y) (written_is kind n m j d out z))
    (contributions_explain kind n b x d m j (record { size = a.size; dst = a.dst; depth = h }) a.row a.column u)
