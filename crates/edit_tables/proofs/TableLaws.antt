-- Tables of a block by row and column, and the loops that fill them.
--   cell_index, row_order-block    the index of an index's row and column; a list in row order is the list
--   filled_at, filled_holds       a table whose numbers are made index by index; one whose numbers are those of g
--   line_suc, line_within         one product more in a sum, and the size of a sum
--   place                         an index is below 1,024
--   column_ask, row_ask           sums down a column and along a row
--   one_cell, two_cell            are those of the two stages
use mathlib.Core.Path.{◌≡◌, ap, subst}
use mathlib.Core.List.{List}
use Prim.Native.Nat.{ℕ, ◌+◌, ◌*◌, ◌/◌, ◌%◌, ◌≤◌, ◌<◌}
use native.Mathlib.Nat.{div-add-mod', mul-le-mul, le_refl}
use native.Mathlib.Numerals.{add-one}
use native.Mathlib.Omega.{arith}
use lib.Arith.{digits_lt, digits_div, digits_mod}
use lib.IntN.{ℤ, pos, ◌+ℤ◌, ◌*ℤ◌}
use lib.ListN.{get_or, length}
use Rattle.integers.specs.Within.{Within}
use Rattle.integers.proofs.BoundLaws.{within_le, within_mul}
use Rattle.integers.proofs.SumLaws.{sum_zero, sum_suc, sum_bound, sum_cong}
use Rattle.h265.specs.Transform.{transform_line, block_at, row_order, stage_one_sum, stage_two_sum}
use Rattle.h265.proofs.RangeLaws.{size_bound}
use Rattle.edit_tables.specs.Tables.{Holds, Filled, LineNeeds, StageNeeds}

pub cell_index : (n i : ℕ) → i / n * n + i % n ≡ i
cell_index n i = div-add-mod' i n

pub row_order-block : (n : ℕ) (xs : List ℤ) (i : ℕ) → row_order n (block_at n xs) i ≡ get_or xs i (pos 0)
unfolding row_order block_at
row_order-block n xs i = ap (λ (k : ℕ). get_or xs k (pos 0)) (cell_index n i)

-- numbers made index by index
pub filled_at : {n : ℕ} {made : ℕ → ℕ → ℤ → Type 0} {xs : List ℤ} → length xs ≡ 1024 → ((i : ℕ) → i < n * n → made (i / n) (i % n) (get_or xs i (pos 0)))
    → Filled n made xs
unfolding block_at
filled_at {n} {made} {xs} e h =
    record {
      long = e;
      at = λ m c hm hc.
          subst (λ (q : ℕ). made m q (get_or xs (m * n + c) (pos 0))) (digits_mod m {m = n} {r = c} hc)
          (subst (λ (q : ℕ). made q ((m * n + c) % n) (get_or xs (m * n + c) (pos 0))) (digits_div m {m = n} {r = c} hc)
          (h (m * n + c) (digits_lt {q = m} {m = n} {r = c} {c = n} hm hc)));
    }

-- a table whose numbers are those of g
pub filled_holds : {n : ℕ} {made : ℕ → ℕ → ℤ → Type 0} {g : ℕ → ℕ → ℤ} {xs : List ℤ} → Filled n made xs
    → ((m c : ℕ) (x : ℤ) → m < n → c < n → made m c x → x ≡ g m c) → Holds n g xs
filled_holds {n} {made} {g} {xs} f h = record { long = f.long; at = λ m c hm hc. h m c (block_at n xs m c) hm hc (f.at m c hm hc) }

-- ---- sums
pub line_zero : (t : ℕ → ℕ → ℤ) (y : ℕ → ℤ) (m : ℕ) → transform_line t 0 y m ≡ pos 0
unfolding transform_line
line_zero t y m = sum_zero (λ i. t i m *ℤ y i)

pub line_suc : (t : ℕ → ℕ → ℤ) (k : ℕ) (y : ℕ → ℤ) (m : ℕ) → transform_line t (k + 1) y m ≡ transform_line t k y m +ℤ t k m *ℤ y k
unfolding transform_line
line_suc t k y m = rw (add-one k) (sum_suc k (λ i. t i m *ℤ y i))

pub line_within : (t : ℕ → ℕ → ℤ) (k : ℕ) (y : ℕ → ℤ) (m : ℕ) → k ≤ 32 → ((i : ℕ) → i < k → Within 90 (t i m)) → ((i : ℕ) → i < k → Within 4194304 (y i))
    → Within 12079595520 (transform_line t k y m)
unfolding transform_line
line_within t k y m h f g =
    within_le {a = k * 377487360} (mul-le-mul h (le_refl 377487360)) (sum_bound k (λ i. t i m *ℤ y i) (λ i l. within_mul (f i l) (g i l)))

pub place : (n k c : ℕ) → (n ≤ 32) × (k < n) × (c < n) → k * n + c < 1024
place n k c h = omega (arith, digits_lt {q = k} {m = n} {r = c} {c = n} h.1 h.2, mul-le-mul h.0 h.0)

module _ {n : ℕ} {t x : List ℤ} (a : StageNeeds n t x) where
  abbrev small : n ≤ 32
  small = (size_bound n a.size).1

  value : (k c : ℕ) → k < n → c < n → Within 4194304 (get_or x (k * n + c) (pos 0))
  unfolding block_at
  value k c hk hc = a.reads k c hk hc

  pub column_ask : (m c : ℕ) → m < n → c < n → LineNeeds n t x m c n
  column_ask m c hm hc =
      record {
        few = small;
        column = hm;
        matrix = a.matrix;
        values = a.values;
        entries = λ k l. a.entries k m l hm;
        reads = λ k l. (omega (arith, place n k c (small, l, hc)), rw (swap c (k * n)) (value k c l hc));
      }
    where
      swap : (p q : ℕ) → p + q ≡ q + p
      swap p q = omega arith

  pub row_ask : (m j : ℕ) → m < n → j < n → LineNeeds n t x j (m * n) 1
  row_ask m j hm hj =
      record {
        few = small;
        column = hj;
        matrix = a.matrix;
        values = a.values;
        entries = λ k l. a.entries k j l hj;
        reads = λ k l. (omega (arith, place n m k (small, hm, l)), rw (once (m * n) k) (value m k hm l));
      }
    where
      once : (p q : ℕ) → p + q * 1 ≡ p + q
      once p q = omega arith

module _ (n : ℕ) (t : ℕ → ℕ → ℤ) (x : List ℤ) (m c : ℕ) where
  pub one_cell : transform_line t n (λ k. get_or x (c + k * n) (pos 0)) m ≡ stage_one_sum t n (block_at n x) m c
  unfolding stage_one_sum transform_line block_at
  one_cell =
      sum_cong n (λ k. t k m *ℤ get_or x (c + k * n) (pos 0)) (λ k. t k m *ℤ get_or x (k * n + c) (pos 0))
      (λ k l. ap (λ (q : ℕ). t k m *ℤ get_or x q (pos 0)) (let e : c + k * n ≡ k * n + c = omega arith in e))

  pub two_cell : transform_line t n (λ k. get_or x (m * n + k * 1) (pos 0)) c ≡ stage_two_sum t n (block_at n x) m c
  unfolding stage_two_sum transform_line block_at
  two_cell =
      sum_cong n (λ k. t k c *ℤ get_or x (m * n + k * 1) (pos 0)) (λ k. t k c *ℤ get_or x (m * n + k) (pos 0))
      (λ k l. ap (λ (q : ℕ). t k c *ℤ get_or x q (pos 0)) (let e : m * n + k * 1 ≡ m * n + k = omega arith in e))
