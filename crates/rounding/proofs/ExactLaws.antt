-- S, s2 and the exact product: how large the first two are, and the product over all columns.
--   entry_sum_bound, shift_of_bound   S is at most 1862; s2 is 4 .. 12
--   abs_sum-entry_sum   no sum of absolute entries over one output is above S
--   exact_all         the product over the columns read is that over all, with those from the count on zero
--   unlimited_all     no limit of stage one changes anything, in a column that is read or not
use mathlib.Core.Path.{◌≡◌, refl, sym, ap, ◌∙◌, subst}
use mathlib.Core.Bool.{Bool}
use mathlib.Core.List.{List}
use Prim.Native.Nat.{ℕ, min, ◌≤◌, ◌<◌}
use native.Mathlib.Decide.{dec_lt}
use native.Mathlib.Omega.{arith}
use borrow.Author.Tests.{le-ltb}
use lib.Dec.{T}
use lib.IntN.{ℤ, pos, ◌*ℤ◌}
use lib.Signed.{◌≤ℤ◌}
use Rattle.integers.specs.Shift.{round_shift, shift_right}
use Rattle.integers.specs.Sum.{sum}
use Rattle.integers.proofs.LinearLaws.{split, ring, diff_ext}
use Rattle.integers.proofs.SumLaws.{sum_cong, sum-none, sum-short}
use Rattle.h265.specs.Matrix.{trans_matrix, abs_sum}
use Rattle.h265.specs.Range.{is_size, transform_range, clip_coeff}
use Rattle.h265.specs.Transform.{transform_line, block_at, columns_read, stage_one_sum, stage_one_value, stage_two_shift}
use Rattle.h265.proofs.RangeLaws.{size_cases, transform_range_least, transform_range_depth, clip_coeff_id, outside_range_false, clip_coeff_zero}
use Rattle.h265.proofs.TransformLaws.{transform_line_cong, columns_read_in}
use Rattle.transform_1d.specs.declared.Kind.{Kind}
use Rattle.transform_1d.specs.declared.Kind.TheVariants.{Dct, Dst}
use Rattle.transform_1d.specs.MatrixOf.{matrix_of}
use Rattle.transform_1d.proofs.MatrixLaws.{trans_matrix-abs_sum_4, trans_matrix-abs_sum_8, trans_matrix-abs_sum_16, trans_matrix-abs_sum_32, dst_matrix-abs_sum}
use Rattle.rounding.specs.Exact.{exact_product, dct_sum, entry_sum, shift_of, Unlimited}

pub entry_sum_bound : (kind : Kind) (n : ℕ) → T (is_size n) → entry_sum kind n ≤ 1862
unfolding entry_sum dct_sum
entry_sum_bound Dct n t = size_cases (λ i. dct_sum i ≤ 1862) (omega arith) (omega arith) (omega arith) (omega arith) n t
entry_sum_bound Dst n t = omega arith

pub shift_of_bound : (b : ℕ) (x : Bool) → 8 ≤ b → b ≤ 16 → (4 ≤ shift_of b x) × (shift_of b x ≤ 12)
unfolding shift_of stage_two_shift
shift_of_bound b x h k = omega (arith, transform_range_least b x, transform_range_depth b x h)

dct_sums : (n : ℕ) → T (is_size n) → (j : ℕ) → j < n → abs_sum (trans_matrix n) n j ≤ℤ pos (entry_sum Dct n)
unfolding entry_sum dct_sum
dct_sums n t =
    size_cases (λ i. (j : ℕ) → j < i → abs_sum (trans_matrix i) i j ≤ℤ pos (entry_sum Dct i))
    trans_matrix-abs_sum_4 trans_matrix-abs_sum_8 trans_matrix-abs_sum_16 trans_matrix-abs_sum_32 n t

pub abs_sum-entry_sum : (kind : Kind) (n : ℕ) → T (is_size n) → (kind ≡ Dst → n ≡ 4) → (j : ℕ) → j < n → abs_sum (matrix_of kind n) n j ≤ℤ pos (entry_sum kind n)
unfolding matrix_of abs_sum
abs_sum-entry_sum Dct n t d j h = dct_sums n t j h
abs_sum-entry_sum Dst n t d j h = subst (λ (i : ℕ). (l : ℕ) → l < i → abs_sum (matrix_of Dst i) i l ≤ℤ pos (entry_sum Dst i)) (sym (d refl)) (unfold entry_sum in dst_matrix-abs_sum) j h

-- ---- columns from the count on
times_zero : (z : ℤ) → z *ℤ pos 0 ≡ pos 0
times_zero z = rw (← split z) (simp ring (diff_ext _ _ _ _ (omega arith)))

module _ (t : ℕ → ℕ → ℤ) (n nx : ℕ) (d : ℕ → ℕ → ℤ) (m c : ℕ) where
  sum_in : c < nx → stage_one_sum t n (columns_read nx d) m c ≡ stage_one_sum t n d m c
  unfolding stage_one_sum
  sum_in h = transform_line_cong t n (λ k. columns_read nx d k c) (λ k. d k c) m (λ k l. columns_read_in nx d k c h)

  sum_past : nx ≤ c → stage_one_sum t n (columns_read nx d) m c ≡ pos 0
  unfolding stage_one_sum transform_line columns_read
  sum_past h = sum-none n _ (λ k l. rw (le-ltb c nx h) (times_zero (t k m)))

  value_in : c < nx → stage_one_value t n (columns_read nx d) m c ≡ stage_one_value t n d m c
  unfolding stage_one_value
  value_in h = ap (λ (z : ℤ). round_shift z 7) (sum_in h)

  value_past : nx ≤ c → stage_one_value t n (columns_read nx d) m c ≡ pos 0
  unfolding stage_one_value round_shift shift_right
  value_past h = ap (λ (z : ℤ). round_shift z 7) (sum_past h)

-- no limit of stage one changes anything, in a column that is read or not
pub unlimited_all : {kind : Kind} {n b : ℕ} {x : Bool} {nx : ℕ} {xs : List ℤ} → Unlimited kind n b x nx xs → (m c : ℕ) → m < n → c < n
    → clip_coeff (transform_range b x) (stage_one_value (matrix_of kind n) n (columns_read nx (block_at n xs)) m c)
    ≡ stage_one_value (matrix_of kind n) n (columns_read nx (block_at n xs)) m c
unlimited_all {kind} {n} {b} {x} {nx} {xs} u m c hm hc =
    let r : ℕ = transform_range b x in
    let t : ℕ → ℕ → ℤ = matrix_of kind n in
    elim (dec_lt c nx) [
      | yes h ↦ (let i = outside_range_false r (stage_one_value t n (block_at n xs) m c) (u.inside m c hm hc h) in
          rw (value_in t n nx (block_at n xs) m c h) (clip_coeff_id r (stage_one_value t n (block_at n xs) m c) i.0 i.1))
      | no h ↦ rw (value_past t n nx (block_at n xs) m c (omega arith)) (clip_coeff_zero r)
    ]

-- the product over the columns read is the one over all, those from the count on being zero
pub exact_all : (t : ℕ → ℕ → ℤ) (n nx : ℕ) (xs : List ℤ) (m j : ℕ)
    → transform_line t n (λ c. stage_one_sum t n (columns_read nx (block_at n xs)) m c) j ≡ exact_product t n nx xs m j
unfolding transform_line exact_product
exact_all t n nx xs m j =
    let f : ℕ → ℤ = λ c. t c j *ℤ stage_one_sum t n (columns_read nx (block_at n xs)) m c in
    sum-short n (min nx n) f (omega arith) (λ c h l. ap (λ (z : ℤ). t c j *ℤ z) (sum_past t n nx (block_at n xs) m c (omega arith)) ∙ times_zero (t c j))
    ∙ sum_cong (min nx n) f _ (λ c l. ap (λ (z : ℤ). t c j *ℤ z) (sum_in t n nx (block_at n xs) m c (omega arith) ∙ whole c))
  where
    whole : (c : ℕ) → stage_one_sum t n (block_at n xs) m c ≡ sum n (λ k. t k m *ℤ block_at n xs k c)
    whole c = unfold stage_one_sum in refl
