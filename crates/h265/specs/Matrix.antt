-- The transform matrices. docs/RULES.md, "Inverse transforms"; H.265, clause 8.6.4.2, equations for trans_matrix.
--   folding_values        F[1..31]
--   trans_matrix32 k m    entry (k, m) of the 32-point matrix, by the folding rule over F
--   trans_matrix n k m    the n-point matrix: rows k × 32/n and columns below n of the 32-point one
--   dst_matrix k m        the 4-point DST matrix
--   abs_sum t n m         the sum of the absolute entries of an n-point matrix t over output m
use Rattle.std.specs.Prelude.{cond, List, [], ◌∷◌, ℕ, zero, suc, ◌+◌, ◌-◌, ◌*◌, ◌/◌, ◌%◌, ltb, ℤ, pos, negsuc, neg_ℤ, nat_abs, get_or}
use Rattle.integers.specs.Sum.{sum}

unfoldable pub folding_values : List ℕ
folding_values =
    90 ∷ 90 ∷ 90 ∷ 89 ∷ 88 ∷ 87 ∷ 85 ∷ 83 ∷ 82 ∷ 80 ∷ 78 ∷ 75 ∷ 73 ∷ 70 ∷ 67 ∷ 64
    ∷ 61 ∷ 57 ∷ 54 ∷ 50 ∷ 46 ∷ 43 ∷ 38 ∷ 36 ∷ 31 ∷ 25 ∷ 22 ∷ 18 ∷ 13 ∷ 9 ∷ 4 ∷ []

-- F[a], for a = 1 .. 31
unfoldable pub folding : ℕ → ℕ
folding a = get_or folding_values (a - 1) 0

-- if a > 32 the entry is -F[64 - a], else F[a]
unfoldable pub folded_entry : ℕ → ℤ
folded_entry a = cond (ltb 32 a) (neg_ℤ (pos (folding (64 - a)))) (pos (folding a))

-- if a > 64 put 128 - a
unfoldable pub folded_angle : ℕ → ℕ
folded_angle a = cond (ltb 64 a) (128 - a) a

unfoldable pub trans_matrix32 : ℕ → ℕ → ℤ
trans_matrix32 zero m = pos 64
trans_matrix32 (suc k) m = folded_entry (folded_angle (suc k * (2 * m + 1) % 128))

unfoldable pub trans_matrix : ℕ → ℕ → ℕ → ℤ
trans_matrix n k m = trans_matrix32 (k * (32 / n)) m

unfoldable pub dst_entries : List ℤ
dst_entries =
    pos 29 ∷ pos 55 ∷ pos 74 ∷ pos 84
    ∷ pos 74 ∷ pos 74 ∷ pos 0 ∷ negsuc 73
    ∷ pos 84 ∷ negsuc 28 ∷ negsuc 73 ∷ pos 55
    ∷ pos 55 ∷ negsuc 83 ∷ pos 74 ∷ negsuc 28 ∷ []

unfoldable pub dst_matrix : ℕ → ℕ → ℤ
dst_matrix k m = get_or dst_entries (k * 4 + m) (pos 0)

unfoldable pub abs_sum : (ℕ → ℕ → ℤ) → ℕ → ℕ → ℤ
abs_sum t n m = sum n (λ k. pos (nat_abs (t k m)))
