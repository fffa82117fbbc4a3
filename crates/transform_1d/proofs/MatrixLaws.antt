-- How large entries and lines can be, and the computed tests over the matrices.
--   trans_matrix_within, dst_matrix_within   entries of the DCT's matrices and of the DST's are at most 90 in size
--   transform_line_within     |line| ≤ (sum of the absolute entries) × B, for data of at most B in size
--   transform_line_cong       lines over matrices and data that agree
--   trans_matrix-abs_sum_4, _8, _16, _32, dst_matrix-abs_sum   247, 479, 940, 1862, and 242
--   size_abs_sum   1862 for every size
use mathlib.Core.Path.{◌≡◌, refl, ap, ap₂}
use mathlib.Core.List.{List, [], ◌∷◌}
use mathlib.Core.Bool.{Bool, true, false, cond, ◌&&◌}
use Prim.Native.Nat.{ℕ, zero, suc, ◌+◌, ◌*◌, ◌-◌, ◌/◌, ◌%◌, ◌≤◌, ◌<◌}
use native.Mathlib.Nat.{add-mul, mul-le-mul, mul-le-mul_right, le_trans, le_refl}
use native.Mathlib.Omega.{arith}
use lib.Dec.{T, ltb, leb, leb→le}
use lib.IntN.{ℤ, pos, neg_ℤ, nat_abs, ◌+ℤ◌, ◌*ℤ◌}
use lib.ListN.{get_or}
use lib.Signed.{le_z, ◌≤ℤ◌}
use mir.Facts.{and_yes}
use Rattle.integers.specs.Sum.{sum}
use Rattle.integers.specs.Within.{Within}
use Rattle.integers.proofs.LinearLaws.{le_in}
use Rattle.integers.proofs.OrderLaws.{≤ℤ_trans}
use Rattle.integers.proofs.MachineLaws.{abs_add, abs_mul}
use Rattle.integers.proofs.BoundLaws.{within_neg, within_pos, table_within}
use Rattle.integers.proofs.SumLaws.{sum_cong}
use Rattle.h265.specs.Matrix.{folding_values, folding, folded_entry, folded_angle, trans_matrix32, trans_matrix, dst_entries, dst_matrix, abs_sum}
use Rattle.h265.specs.Range.{is_size}
use Rattle.h265.specs.Transform.{transform_line}
use Rattle.h265.proofs.RangeLaws.{size_cases}
use Rattle.integers.proofs.TestLaws.{all_below, all_below_at}

-- ---- entries at most 90 in size
abbrev all_at_most : ℕ → List ℕ → Bool
all_at_most b [] = true
all_at_most b (x ∷ xs) = leb x b && all_at_most b xs

at_most_get_or : (b : ℕ) (xs : List ℕ) → T (all_at_most b xs) → (i : ℕ) → get_or xs i 0 ≤ b
at_most_get_or b [] t i = omega arith
at_most_get_or b (x ∷ xs) t zero = leb→le x b (and_yes (leb x b) (all_at_most b xs) t).0
at_most_get_or b (x ∷ xs) t (suc i) = at_most_get_or b xs (and_yes (leb x b) (all_at_most b xs) t).1 i

folded_entry_within : (a : ℕ) → Within 90 (folded_entry a)
unfolding folded_entry folding folding_values
folded_entry_within a = by_test (ltb 32 a)
  where
    by_test : (b : Bool) → Within 90 (cond b (neg_ℤ (pos (get_or folding_values (64 - a - 1) 0))) (pos (get_or folding_values (a - 1) 0)))
    by_test true = within_neg (within_pos (at_most_get_or 90 folding_values tt (64 - a - 1)))
    by_test false = within_pos (at_most_get_or 90 folding_values tt (a - 1))

trans_matrix32_within : (k m : ℕ) → Within 90 (trans_matrix32 k m)
unfolding trans_matrix32
trans_matrix32_within zero m = within_pos (leb→le 64 90 tt)
trans_matrix32_within (suc k) m = folded_entry_within (folded_angle (suc k * (2 * m + 1) % 128))

pub trans_matrix_within : (n k m : ℕ) → Within 90 (trans_matrix n k m)
unfolding trans_matrix
trans_matrix_within n k m = trans_matrix32_within (k * (32 / n)) m

pub dst_matrix_within : (k m : ℕ) → Within 90 (dst_matrix k m)
unfolding dst_matrix dst_entries
dst_matrix_within k m = table_within 90 dst_entries tt (k * 4 + m)

-- ---- equal lines
pub transform_line_cong : (t u : ℕ → ℕ → ℤ) (n : ℕ) (x y : ℕ → ℤ) (m : ℕ)
    → ((k : ℕ) → k < n → t k m ≡ u k m) → ((k : ℕ) → k < n → x k ≡ y k) → transform_line t n x m ≡ transform_line u n y m
unfolding transform_line
transform_line_cong t u n x y m h e = sum_cong n (λ k. t k m *ℤ x k) (λ k. u k m *ℤ y k) (λ k l. ap₂ ◌*ℤ◌ (h k l) (e k l))

-- ---- the size of a line
total : ℕ → (ℕ → ℕ) → ℕ
total zero f = 0
total (suc n) f = total n f + f n

sum-total : (n : ℕ) (f : ℕ → ℕ) → sum n (λ k. pos (f k)) ≡ pos (total n f)
unfolding sum total
sum-total zero f = refl
sum-total (suc n) f = ap (λ (z : ℤ). z +ℤ pos (f n)) (sum-total n f)

line_total : (t : ℕ → ℕ → ℤ) (n : ℕ) (y : ℕ → ℤ) (m b : ℕ) → ((k : ℕ) → k < n → Within b (y k))
    → nat_abs (transform_line t n y m) ≤ total n (λ k. nat_abs (t k m)) * b
unfolding transform_line sum total
line_total t zero y m b h = omega arith
line_total t (suc n) y m b h =
    omega (
      arith,
      abs_add (sum n (λ k. t k m *ℤ y k)) (t n m *ℤ y n),
      line_total t n y m b (λ k l. h k (omega arith)),
      add-mul (total n (λ k. nat_abs (t k m))) (nat_abs (t n m)) b,
      abs_mul (t n m) (y n),
      mul-le-mul (le_refl (nat_abs (t n m))) (h n (omega arith)).within,
    )

pub transform_line_within : (t : ℕ → ℕ → ℤ) (n : ℕ) (y : ℕ → ℤ) (m : ℕ) {a b : ℕ}
    → abs_sum t n m ≤ℤ pos a → ((k : ℕ) → k < n → Within b (y k)) → Within (a * b) (transform_line t n y m)
unfolding abs_sum
transform_line_within t n y m {a} {b} h k =
    record { within = le_trans (line_total t n y m b k) (mul-le-mul_right b small) }
  where
    small : total n (λ k. nat_abs (t k m)) ≤ a
    small = omega (arith, le_in (rw (sum-total n (λ k. nat_abs (t k m))) at h))

-- ---- computed tests
abbrev sums_at_most : (ℕ → ℕ → ℤ) → ℕ → ℕ → Bool
sums_at_most t n a = all_below n (λ m. le_z (abs_sum t n m) (pos a))

abs_sum_of : (t : ℕ → ℕ → ℤ) (n a : ℕ) → T (sums_at_most t n a) → (m : ℕ) → m < n → abs_sum t n m ≤ℤ pos a
abs_sum_of t n a h m l = record { le = all_below_at n (λ m. le_z (abs_sum t n m) (pos a)) h m l }

pub trans_matrix-abs_sum_4 : (m : ℕ) → m < 4 → abs_sum (trans_matrix 4) 4 m ≤ℤ pos 247
unfolding all_below abs_sum sum trans_matrix trans_matrix32 folded_entry folded_angle folding folding_values
trans_matrix-abs_sum_4 = abs_sum_of (trans_matrix 4) 4 247 tt

pub trans_matrix-abs_sum_8 : (m : ℕ) → m < 8 → abs_sum (trans_matrix 8) 8 m ≤ℤ pos 479
unfolding all_below abs_sum sum trans_matrix trans_matrix32 folded_entry folded_angle folding folding_values
trans_matrix-abs_sum_8 = abs_sum_of (trans_matrix 8) 8 479 tt

pub trans_matrix-abs_sum_16 : (m : ℕ) → m < 16 → abs_sum (trans_matrix 16) 16 m ≤ℤ pos 940
unfolding all_below abs_sum sum trans_matrix trans_matrix32 folded_entry folded_angle folding folding_values
trans_matrix-abs_sum_16 = abs_sum_of (trans_matrix 16) 16 940 tt

pub trans_matrix-abs_sum_32 : (m : ℕ) → m < 32 → abs_sum (trans_matrix 32) 32 m ≤ℤ pos 1862
unfolding all_below abs_sum sum trans_matrix trans_matrix32 folded_entry folded_angle folding folding_values
trans_matrix-abs_sum_32 = abs_sum_of (trans_matrix 32) 32 1862 tt

-- the entries of a column of any size
pub size_abs_sum : (n : ℕ) → T (is_size n) → (m : ℕ) → m < n → abs_sum (trans_matrix n) n m ≤ℤ pos 1862
size_abs_sum =
    size_cases (λ (n : ℕ). (m : ℕ) → m < n → abs_sum (trans_matrix n) n m ≤ℤ pos 1862)
    (λ m l. ≤ℤ_trans {y = pos 247} (trans_matrix-abs_sum_4 m l) (record { le = tt }))
    (λ m l. ≤ℤ_trans {y = pos 479} (trans_matrix-abs_sum_8 m l) (record { le = tt }))
    (λ m l. ≤ℤ_trans {y = pos 940} (trans_matrix-abs_sum_16 m l) (record { le = tt }))
    trans_matrix-abs_sum_32

pub dst_matrix-abs_sum : (m : ℕ) → m < 4 → abs_sum dst_matrix 4 m ≤ℤ pos 242
unfolding all_below abs_sum sum dst_matrix dst_entries
dst_matrix-abs_sum = abs_sum_of dst_matrix 4 242 tt
