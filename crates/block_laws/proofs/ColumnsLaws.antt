-- Laws of a block's columns.
--   column_replaced-length      the list stays as long as it was
--   column_replaced-overwrite   one column of a written block replaced is the block written with that column
--   column_count-append         the count reads the block alone
--   ZeroRows, zero_row, other_row   what a scan down a column has seen
--   used_there, used_nowhere   what such a scan says of the column
--   count_used, count_unused   what a column says of the count
--   zero_rows-all              what a scan of the rows says of a column
use mathlib.Core.Path.{◌≡◌, refl, sym, ap, ◌∙◌}
use mathlib.Core.Bool.{Bool, true, false, not, ◌&&◌, cond}
use mathlib.Core.List.{List, ◌++◌}
use Prim.Native.Nat.{ℕ, zero, suc, zero-le, ◌+◌, ◌*◌, ◌/◌, ◌%◌, ◌≤◌, ◌<◌}
use native.Mathlib.Decide.{dec_lt, ℕ_discrete}
use native.Mathlib.Nat.{le-div_iff_mul-le}
use native.Mathlib.Omega.{arith}
use borrow.Author.Tests.{lt-ltb, le-ltb, eq-eqb, ne_eqb}
use lib.Dec.{eqb, ltb}
use lib.IntN.{ℤ, pos, negsuc, nat_abs}
use lib.ListN.{length, get_or}
use lib.Seq.{ext_get_or}
use Rattle.integers.specs.Lists.{overwrite}
use Rattle.integers.proofs.ListsLaws.{tabulate-length, tabulate-get_or, overwrite-length, overwrite-get_or, overwrite-get_or-past}
use Rattle.integers.specs.Search.{first_where}
use Rattle.integers.proofs.SearchLaws.{None, First, first_where-none, first_where_first, first_where_cong}
use Rattle.h265.specs.Transform.{block_at, row_order}
use Rattle.h265.proofs.TransformLaws.{cell_row, cell_column, block_at_append}
use Rattle.coefficients.specs.Rows.{RowsUsed}
use Rattle.stages_wide.specs.Wide.{column_replaced}
use Rattle.block_rules.specs.Columns.{column_used, last_where, column_count}

pub column_replaced-length : (n c : ℕ) (f : ℕ → ℤ) (xs : List ℤ) → length (column_replaced n c f xs) ≡ length xs
unfolding column_replaced
column_replaced-length n c f xs = tabulate-length (length xs) (λ i. cond (eqb (i % n) c && ltb (i / n) n) (f (i / n)) (get_or xs i (pos 0)))

-- an index behind the block has no row of it
row-past : (n i : ℕ) → n * n ≤ i → n ≤ i / n
row-past zero i h = zero-le
row-past (suc n) i h = (le-div_iff_mul-le {k = suc n} {x = suc n} {y = i} (omega arith)).1 h

behind : (s t : Bool) → t ≡ false → (a b : ℤ) → cond (s && t) a b ≡ b
behind true t e a b = rw e
behind false t e a b = refl

module _ (n col : ℕ) (f : ℕ → ℤ) (g h : ℕ → ℕ → ℤ) (xs : List ℤ) (long : n * n ≤ length xs)
    (own : (m : ℕ) → m < n → h m col ≡ f m) (other : (m c : ℕ) → m < n → c < n → (c ≡ col → ⊥) → h m c ≡ g m c) where
  before : List ℤ
  before = overwrite (n * n) (row_order n g) xs

  inside : (i : ℕ) → i < n * n → cond (eqb (i % n) col && ltb (i / n) n) (f (i / n)) (get_or before i (pos 0)) ≡ row_order n h i
  unfolding before row_order
  inside i l =
      elim (ℕ_discrete (i % n) col) [
        | yes e ↦ rw (lt-ltb (i / n) n (cell_row n i l), eq-eqb (i % n) col e) (sym (ap (h (i / n)) e ∙ own (i / n) (cell_row n i l)))
        | no e ↦ rw (ne_eqb (i % n) col e, overwrite-get_or (n * n) (row_order n g) xs i (pos 0) l) (sym (other (i / n) (i % n) (cell_row n i l) (cell_column n i l) e))
      ]

  at : (i : ℕ) → i < length xs → cond (eqb (i % n) col && ltb (i / n) n) (f (i / n)) (get_or before i (pos 0)) ≡ get_or (overwrite (n * n) (row_order n h) xs) i (pos 0)
  unfolding before
  at i l =
      elim (dec_lt i (n * n)) [
        | yes q ↦ inside i q ∙ sym (overwrite-get_or (n * n) (row_order n h) xs i (pos 0) q)
        | no q ↦ behind (eqb (i % n) col) (ltb (i / n) n) (le-ltb (i / n) n (row-past n i (omega arith))) (f (i / n)) (get_or before i (pos 0)) ∙ past i (omega arith)
      ]
    where
      past : (i : ℕ) → n * n ≤ i → get_or before i (pos 0) ≡ get_or (overwrite (n * n) (row_order n h) xs) i (pos 0)
      past i q = overwrite-get_or-past (n * n) (row_order n g) xs i (pos 0) q ∙ sym (overwrite-get_or-past (n * n) (row_order n h) xs i (pos 0) q)

  pub column_replaced-overwrite : column_replaced n col f (overwrite (n * n) (row_order n g) xs) ≡ overwrite (n * n) (row_order n h) xs
  unfolding before column_replaced
  column_replaced-overwrite =
      let e : length before ≡ length xs = overwrite-length (n * n) (row_order n g) xs long in
      let p : ℕ → ℤ = λ i. cond (eqb (i % n) col && ltb (i / n) n) (f (i / n)) (get_or before i (pos 0)) in
      ext_get_or (pos 0) (column_replaced n col f before) (overwrite (n * n) (row_order n h) xs)
      (column_replaced-length n col f before ∙ e ∙ sym (overwrite-length (n * n) (row_order n h) xs long))
      (λ i l. let b : i < length before = omega (arith, column_replaced-length n col f before) in
      tabulate-get_or (length before) p i (pos 0) b ∙ at i (omega arith))

last_where_cong : (k : ℕ) (p q : ℕ → Bool) → ((i : ℕ) → i < k → p i ≡ q i) → last_where k p ≡ last_where k q
unfolding last_where
last_where_cong zero p q h = refl
last_where_cong (suc k) p q h = rw (h k (omega arith), last_where_cong k p q (λ i l. h i (omega arith)))

pub column_count-append : (n : ℕ) (d xs : List ℤ) → length d ≡ n * n → column_count n (d ++ xs) ≡ column_count n d
unfolding column_count column_used
column_count-append n d xs e =
    last_where_cong n (column_used n (d ++ xs)) (column_used n d)
    (λ c l. ap (λ (k : ℕ). ltb k n) (first_where_cong n (λ k. not (eqb (nat_abs (block_at n (d ++ xs) k c)) 0)) (λ k. not (eqb (nat_abs (block_at n d k c)) 0))
    (λ k q. ap (λ (z : ℤ). not (eqb (nat_abs z) 0)) (block_at_append n d xs k c e q l))))

-- ---- the scan, from the last column leftwards
unfoldable pub zero_at : ℕ → List ℤ → ℕ → ℕ → Bool
zero_at n xs c k = not (eqb (nat_abs (block_at n xs k c)) 0)

-- no row before k of column c has a coefficient other than zero
abbrev pub ZeroRows : ℕ → List ℤ → ℕ → ℕ → Type 0
ZeroRows n xs c k = None (zero_at n xs c) k

pub zero_row : (n : ℕ) (xs : List ℤ) (c k : ℕ) → get_or xs (k * n + c) (pos 0) ≡ pos 0 → zero_at n xs c k ≡ false
unfolding zero_at block_at
zero_row n xs c k e = rw e

pub other_row : (n : ℕ) (xs : List ℤ) (c k : ℕ) → (get_or xs (k * n + c) (pos 0) ≡ pos 0 → ⊥) → zero_at n xs c k ≡ true
unfolding zero_at block_at
other_row n xs c k h = ap not (ne_eqb (nat_abs (get_or xs (k * n + c) (pos 0))) 0 (λ e. h (abs_zero (get_or xs (k * n + c) (pos 0)) e)))
  where
    abs_zero : (z : ℤ) → nat_abs z ≡ 0 → z ≡ pos 0
    abs_zero (pos a) e = ap pos e
    abs_zero (negsuc a) e = absurd (let b : ⊥ = omega arith in b)

-- what a scan down a column says of it
pub used_there : (n : ℕ) (xs : List ℤ) (c k : ℕ) → k < n → zero_at n xs c k ≡ true → column_used n xs c ≡ true
unfolding column_used zero_at
used_there n xs c k h u = elim (dec_lt first n) [ yes q ↦ lt-ltb first n q | no q ↦ absurd (let e = found.before.at k (omega (arith, q, h)) in let b : ⊥ = cc in b) ]
  where
    first : ℕ
    first = first_where n (λ k. not (eqb (nat_abs (block_at n xs k c)) 0))

    found : First n (λ k. not (eqb (nat_abs (block_at n xs k c)) 0)) first
    found = first_where_first n (λ k. not (eqb (nat_abs (block_at n xs k c)) 0))

pub used_nowhere : (n : ℕ) (xs : List ℤ) (c : ℕ) → ZeroRows n xs c n → column_used n xs c ≡ false
unfolding column_used zero_at
used_nowhere n xs c z = rw (first_where-none n (omega arith) z, le-ltb n n (omega arith))

-- a column in use ends the scan of columns, and a column of zeros takes it on
pub count_used : (n : ℕ) (xs : List ℤ) (c : ℕ) → column_used n xs c ≡ true → last_where (suc c) (column_used n xs) ≡ suc c
unfolding last_where
count_used n xs c u = rw u

pub count_unused : (n : ℕ) (xs : List ℤ) (c : ℕ) → column_used n xs c ≡ false → last_where (suc c) (column_used n xs) ≡ last_where c (column_used n xs)
unfolding last_where
count_unused n xs c z = rw z

-- a column whose rows in use are zero is zero
pub zero_rows-all : {xs : List ℤ} {n r : ℕ} (c : ℕ) → c < n → RowsUsed xs n n r → ZeroRows n xs c r → ZeroRows n xs c n
zero_rows-all {xs} {n} {r} c h u z =
    record {
      at = λ i l.
          elim (dec_lt i r) [
            | yes q ↦ z.at i q
            | no q ↦ zero_row n xs c i (u.zero i c (omega (arith, q)) l h)
          ];
    }
