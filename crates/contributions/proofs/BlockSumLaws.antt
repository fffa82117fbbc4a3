-- Sums of sums.
--   sum_rows     a sum in row order is the sum over rows of the sums along them
use mathlib.Core.Path.{◌≡◌, sym, ap, ap₂, ◌∙◌}
use Prim.Native.Nat.{ℕ, zero, suc, ◌+◌, ◌*◌}
use native.Mathlib.Nat.{suc-mul, zero-mul}
use lib.IntN.{ℤ, ◌+ℤ◌}
use Rattle.integers.specs.Sum.{sum}
use Rattle.integers.proofs.SumLaws.{sum_zero, sum_suc, sum_cong, sum-append}
use Rattle.h265.specs.Transform.{row_order}
use Rattle.h265.proofs.TransformLaws.{row_order-at}

pub sum_rows : (r n : ℕ) (g : ℕ → ℕ → ℤ) → sum (r * n) (row_order n g) ≡ sum r (λ k. sum n (λ c. g k c))
sum_rows zero n g = ap (λ (k : ℕ). sum k (row_order n g)) (zero-mul n) ∙ sum_zero (row_order n g) ∙ sym (sum_zero (λ k. sum n (λ c. g k c)))
sum_rows (suc r) n g =
    ap (λ (k : ℕ). sum k (row_order n g)) (suc-mul r n) ∙ sum-append (r * n) n (row_order n g)
    ∙ ap₂ ◌+ℤ◌ (sum_rows r n g) (sum_cong n (λ c. row_order n g (r * n + c)) (λ c. g r c) (λ c l. row_order-at n g r c l))
    ∙ sym (sum_suc r (λ k. sum n (λ c. g k c)))
