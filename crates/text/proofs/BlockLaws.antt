-- Laws of rows and blocks of numbers: the turns of the loops that write them.
--   row-length                            how many numbers a row of a block has
--   row_more, row_done                    one number more of a row; the whole row
--   rows_start, rows_more, block_done     the invariant of a block's rows
--   next_row, row_fits, rows_all          places of rows in a block
use mathlib.Core.Path.{◌≡◌, refl, ap}
use mathlib.Core.Bool.{cond}
use mathlib.Core.List.{List, [], ◌∷◌, ◌++◌}
use Prim.Native.Nat.{ℕ, zero, suc, ◌+◌, ◌-◌, ◌*◌, ◌≤◌, ◌<◌}
use native.Mathlib.Nat.{suc-mul, zero-mul, mul-le-mul_right, sub-zero}
use native.Mathlib.Numerals.{add-one}
use native.Mathlib.Omega.{arith}
use borrow.Author.Tests.{lt-ltb, le-ltb}
use lib.Dec.{ltb, leb-suc-suc}
use lib.IntN.{ℤ, pos}
use lib.ListN.{length, take, drop, set, get_or, length-drop, drop_of_length-le}
use lib.Seq.{drop-cons, drop-drop, length-take-le}
use mir.Syntax.{w32}
use mir.Val.{SFits, to_z, of_z}
use Rattle.integers.proofs.MachineLaws.{round_trip}
use Rattle.text.specs.Text.{space, line_end, separator, signed_text, row_text, rows_text, block_text, Wrote}
use Rattle.text.proofs.WroteLaws.{Left, wrote_one, left_start, left_more, left_done}

-- ---- a row
pub row-length : (zs : List ℤ) (from n : ℕ) → from + n ≤ length zs → length (take n (drop from zs)) ≡ n
row-length zs from n h = length-take-le n (drop from zs) (rw length-drop (omega arith))

separator-drop : (zs : List ℤ) (i : ℕ) → separator (drop i zs) ≡ cond (ltb i (length zs)) space line_end
separator-drop [] zero = refl
separator-drop [] (suc i) = rw (le-ltb (suc i) 0 (omega arith)) refl
separator-drop (z ∷ zs) zero = rw (lt-ltb 0 (suc (length zs)) (omega arith)) refl
separator-drop (z ∷ zs) (suc i) = rw (leb-suc-suc (suc i) (length zs)) (separator-drop zs i)

row_step : (zs : List ℤ) (i : ℕ) → i < length zs
    → row_text (drop i zs) ≡ signed_text (get_or zs i (pos 0)) ++ (cond (ltb (i + 1) (length zs)) space line_end ∷ row_text (drop (i + 1) zs))
unfolding row_text
row_step zs i h = rw (add-one i, drop-cons zs i (pos 0) h, separator-drop zs (suc i)) refl

pub row_more : {l t m o : List ℕ} {i j k : ℕ} (zs : List ℤ) (p n : ℕ) (z : ℤ) (a : ℕ)
    → p < n → length zs ≡ n → Left l i t m j (row_text (drop p zs)) → SFits w32 z → z ≡ get_or zs p (pos 0)
    → a ≡ cond (ltb (p + 1) n) space line_end → Wrote m j (signed_text (to_z w32 (of_z w32 z))) o k
    → Left l i t (set o k a) (k + 1) (row_text (drop (p + 1) zs))
row_more {o = o} {k = k} zs p n z a h en g f ez ea w =
    left_more (left_more (rw (row_step zs p (omega arith), en, ← ea, ← ez) at g) (rw (round_trip f) at w)) (wrote_one o k a)

pub row_done : {l t m : List ℕ} {i j : ℕ} (zs : List ℤ) (p : ℕ) → length zs ≤ p → Left l i t m j (row_text (drop p zs)) → Wrote l i t m j
unfolding row_text
row_done zs p h g = left_done (rw (drop_of_length-le zs h) at g)

-- ---- places of rows
pub next_row : (k n : ℕ) → (k + 1) * n ≡ k * n + n
next_row k n = rw (add-one k) (suc-mul k n)

pub row_fits : (k n : ℕ) → k < n → k * n + n ≤ n * n
row_fits k n h = rw (← suc-mul k n) (mul-le-mul_right n h)

pub rows_all : (k n : ℕ) → k ≤ n → n ≤ k → k * n ≡ n * n
rows_all k n h g = ap (λ (x : ℕ). x * n) (omega arith)

-- ---- the rows of a block
pub rows_start : (l : List ℕ) (i n : ℕ) (zs : List ℤ) → Left l i (block_text n zs) l i (rows_text (n - 0) n (drop (0 * n) zs))
unfolding block_text
rows_start l i n zs = rw (sub-zero n, zero-mul n) (left_start l i (rows_text n n zs))

rows_step : (zs : List ℤ) (from k n : ℕ) → k < n
    → rows_text (n - k) n (drop from zs) ≡ row_text (take n (drop from zs)) ++ rows_text (n - (k + 1)) n (drop (from + n) zs)
unfolding rows_text
rows_step zs from k n h = rw (one_less, drop-drop n from zs) refl
  where
    one_less : n - k ≡ suc (n - (k + 1))
    one_less = omega arith

pub rows_more : {l t m o : List ℕ} {i j e : ℕ} (zs : List ℤ) (k n : ℕ) → k < n → Left l i t m j (rows_text (n - k) n (drop (k * n) zs))
    → Wrote m j (row_text (take n (drop (k * n) zs))) o e → Left l i t o e (rows_text (n - (k + 1)) n (drop ((k + 1) * n) zs))
rows_more zs k n h g w = rw (next_row k n) (left_more (rw (rows_step zs (k * n) k n h) at g) w)

pub block_done : {l t m : List ℕ} {i j : ℕ} (zs : List ℤ) (n k : ℕ) → n ≤ k → Left l i t m j (rows_text (n - k) n (drop (k * n) zs)) → Wrote l i t m j
unfolding rows_text
block_done zs n k h g = left_done (rw none at g)
  where
    none : n - k ≡ 0
    none = omega arith
