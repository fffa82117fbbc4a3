-- Laws of sizes, and of m by the rule that supplies it.
--   size_large                     a size above 8 is at least 16
--   factor_four, factor_eight      at sizes 4 and 8 m is the entry at the index
--   factor_dc, factor_repeated     at sizes 16 and 32: index 0, and the others
--   factor_small                   both in one
--   factor_first, factor_later     the same as the last two, by the size alone
--   square_least                   n² is at least 256 where n is 16 or more
--   size_rest, log2_large          what is neither 4 nor 8 is 16 or more, and its logarithm 4 or more
--   size_log                       the logarithm of a size is the definition's
--   position_is                    the position that the code works out
--   position_inside                a position in the list is below 64
use mathlib.Core.Path.{◌≡◌, refl}
use mathlib.Core.List.{List}
use Prim.Native.Nat.{ℕ, ◌+◌, ◌-◌, ◌*◌, ◌/◌, ◌%◌, ◌^◌, ◌≤◌, ◌<◌}
use native.Mathlib.Nat.{mul-le-mul}
use native.Mathlib.Omega.{arith}
use borrow.Author.Tests.{eq-eqb, ne_eqb}
use lib.Dec.{T}
use lib.ListN.{get_or}
use Rattle.h265.specs.Range.{is_size, log2_size}
use Rattle.h265.specs.ScalingFactor.{repeated_position, factor_source, entry_of, dc_of, factor_by, scaling_factor}
use Rattle.h265.specs.ScalingFactor.ScalingList.{listed}
use Rattle.h265.proofs.RangeLaws.{size_cases}
use Rattle.parameters.proofs.ParametersLaws.{power_exact}

-- ---- sizes
-- what is above 8
pub size_large : (n : ℕ) → T (is_size n) → 8 < n → 16 ≤ n
size_large n t h =
    size_cases (λ m. 8 < m → 16 ≤ m) (λ k. omega arith) (λ k. omega arith) (λ k. omega arith) (λ k. omega arith) n t h

-- what is neither 4 nor 8
pub size_rest : (n : ℕ) → T (is_size n) → (n ≡ 4 → ⊥) → (n ≡ 8 → ⊥) → 16 ≤ n
size_rest n t =
    size_cases (λ m. (m ≡ 4 → ⊥) → (m ≡ 8 → ⊥) → 16 ≤ m)
    (λ a b. absurd (a refl)) (λ a b. absurd (b refl)) (λ a b. omega arith) (λ a b. omega arith) n t

pub log2_large : (n : ℕ) → T (is_size n) → 16 ≤ n → 4 ≤ log2_size n
unfolding log2_size
log2_large n t h =
    size_cases (λ m. 16 ≤ m → 4 ≤ log2_size m) (λ k. omega arith) (λ k. omega arith) (λ k. omega arith) (λ k. omega arith) n t h

pub size_log : (n r : ℕ) → T (is_size n) → 2 ^ r ≤ n → n < 2 * 2 ^ r → (r ≡ log2_size n) × (n ≡ 2 ^ r)
unfolding log2_size
size_log n r t lo hi =
    size_cases (λ m. 2 ^ r ≤ m → m < 2 * 2 ^ r → (r ≡ log2_size m) × (m ≡ 2 ^ r))
    (λ a b. let e : r ≡ 2 = power_exact r 2 a b in (e, rw e refl)) (λ a b. let e : r ≡ 3 = power_exact r 3 a b in (e, rw e refl))
    (λ a b. let e : r ≡ 4 = power_exact r 4 a b in (e, rw e refl)) (λ a b. let e : r ≡ 5 = power_exact r 5 a b in (e, rw e refl)) n t lo hi

-- ---- m
module _ (es : List ℕ) (d n i : ℕ) where
  pub factor_four : n ≡ 4 → scaling_factor (listed es d) n i ≡ get_or es i 0
  unfolding scaling_factor factor_source factor_by entry_of
  factor_four e = rw (eq-eqb n 4 e)

  pub factor_eight : (n ≡ 4 → ⊥) → n ≡ 8 → scaling_factor (listed es d) n i ≡ get_or es i 0
  unfolding scaling_factor factor_source factor_by entry_of
  factor_eight a e = rw (ne_eqb n 4 a, eq-eqb n 8 e)

  pub factor_dc : (n ≡ 4 → ⊥) → (n ≡ 8 → ⊥) → i ≡ 0 → scaling_factor (listed es d) n i ≡ d
  unfolding scaling_factor factor_source factor_by dc_of
  factor_dc a b e = rw (ne_eqb n 4 a, ne_eqb n 8 b, eq-eqb i 0 e)

  pub factor_repeated : (n ≡ 4 → ⊥) → (n ≡ 8 → ⊥) → (i ≡ 0 → ⊥) → scaling_factor (listed es d) n i ≡ get_or es (repeated_position n i) 0
  unfolding scaling_factor factor_source factor_by entry_of
  factor_repeated a b z = rw (ne_eqb n 4 a, ne_eqb n 8 b, ne_eqb i 0 z)

-- the same by the size alone
pub factor_small : (es : List ℕ) (d n i : ℕ) → T (is_size n) → n ≤ 8 → scaling_factor (listed es d) n i ≡ get_or es i 0
factor_small es d n i t h =
    size_cases (λ m. m ≤ 8 → scaling_factor (listed es d) m i ≡ get_or es i 0)
    (λ k. factor_four es d 4 i refl) (λ k. factor_eight es d 8 i (λ e. let x : ⊥ = omega arith in x) refl)
    (λ k. absurd (let x : ⊥ = omega arith in x)) (λ k. absurd (let x : ⊥ = omega arith in x)) n t h

pub factor_later : (es : List ℕ) (d n i : ℕ) → 16 ≤ n → 1 ≤ i → scaling_factor (listed es d) n i ≡ get_or es (repeated_position n i) 0
factor_later es d n i h k =
    factor_repeated es d n i (λ e. let x : ⊥ = omega arith in x) (λ e. let x : ⊥ = omega arith in x) (λ e. let x : ⊥ = omega arith in x)

pub factor_first : (es : List ℕ) (d n : ℕ) → 16 ≤ n → scaling_factor (listed es d) n 0 ≡ d
factor_first es d n h =
    factor_dc es d n 0 (λ e. let x : ⊥ = omega arith in x) (λ e. let x : ⊥ = omega arith in x) refl

pub square_least : (n : ℕ) → 16 ≤ n → 256 ≤ n * n
square_least n h = mul-le-mul h h

pub position_is : (n i r : ℕ) → r ≡ log2_size n → n ≡ 2 ^ r → i / 2 ^ r / 2 ^ (r - 3) * 8 + i % 2 ^ r / 2 ^ (r - 3) ≡ repeated_position n i
unfolding repeated_position
position_is n i r e d = rw (← e, d)

pub position_inside : (n i : ℕ) → T (is_size n) → i < n * n → 16 ≤ n → repeated_position n i < 64
unfolding repeated_position log2_size
position_inside n i t h k =
    size_cases (λ m. i < m * m → 16 ≤ m → repeated_position m i < 64)
    (λ h k. omega arith) (λ h k. omega arith) (λ h k. omega arith) (λ h k. omega arith) n t h k
