-- Laws of the rows in use.
--   row_inside       a run of a row ends inside the block
--   rows_used_all     no row is left out at the start
--   row_slice, -long, -same   the slice of a row, and what stands in it
--   row_before        one row more that is zero, before those that are
--   rows_used_more    more rows than are in use
use mathlib.Core.Path.{◌≡◌, sym, ◌∙◌}
use mathlib.Core.List.{List}
use Prim.Native.Nat.{ℕ, ◌+◌, ◌*◌, ◌-◌, ◌≤◌, ◌<◌}
use native.Mathlib.Nat.{mul-le-mul_right, suc-mul}
use native.Mathlib.Omega.{arith}
use native.Mathlib.Decide.{ℕ_discrete}
use lib.IntN.{ℤ, pos}
use lib.ListN.{get_or, length, take, drop, length-drop}
use lib.Seq.{length-take-le, get_or-take, get_or-drop}
use Rattle.coefficients.specs.Rows.{RowsUsed}

pub row_inside : (n r w : ℕ) → r < n → w ≤ n → r * n + w ≤ n * n
row_inside n r w h l = omega (arith, mul-le-mul_right n h, suc-mul r n)

pub rows_used_all : {coeff : List ℤ} {n nx : ℕ} → RowsUsed coeff n nx n
rows_used_all = record { most = omega arith; zero = λ k c l h. absurd (let e : ⊥ = omega arith in e) }

pub rows_used_more : {coeff : List ℤ} {n nx r q : ℕ} → r ≤ q → q ≤ n → RowsUsed coeff n nx r → RowsUsed coeff n nx q
rows_used_more h l u = record { most = l; zero = λ k c a b d. u.zero k c (omega arith) b d }

-- the slice of nx coefficients that row k begins with
abbrev pub row_slice : List ℤ → ℕ → ℕ → ℕ → List ℤ
row_slice xs n nx k = take (k * n + nx - k * n) (drop (k * n) xs)

pub row_slice-long : (xs : List ℤ) (n nx k : ℕ) → n * n ≤ length xs → nx ≤ n → k < n → length (row_slice xs n nx k) ≡ nx
row_slice-long xs n nx k m l h =
    let e : k * n + nx - k * n ≡ nx = omega arith in
    rw e (length-take-le nx (drop (k * n) xs) (rw (length-drop (k * n) xs) (omega (arith, row_inside n k nx h l, m))))

pub row_slice-same : (xs : List ℤ) (n nx k c : ℕ) → c < nx → get_or (row_slice xs n nx k) c (pos 0) ≡ get_or xs (k * n + c) (pos 0)
row_slice-same xs n nx k c h =
    get_or-take (k * n + nx - k * n) (drop (k * n) xs) c (pos 0) (omega arith) ∙ get_or-drop (k * n) xs c (pos 0)

pub row_before : {coeff : List ℤ} {n nx r : ℕ} → n * n ≤ length coeff → nx ≤ n → 0 < r → RowsUsed coeff n nx r
    → ((c : ℕ) → c < length (row_slice coeff n nx (r - 1)) → get_or (row_slice coeff n nx (r - 1)) c (pos 0) ≡ pos 0) → RowsUsed coeff n nx (r - 1)
row_before {coeff} {n} {nx} {r} m l z u f = record { most = omega (arith, u.most); zero = zero }
  where
    this : (c : ℕ) → c < nx → get_or coeff ((r - 1) * n + c) (pos 0) ≡ pos 0
    this c h = sym (row_slice-same coeff n nx (r - 1) c h) ∙ f c (rw (row_slice-long coeff n nx (r - 1) m l (omega (arith, u.most))) h)

    zero : (k c : ℕ) → r - 1 ≤ k → k < n → c < nx → get_or coeff (k * n + c) (pos 0) ≡ pos 0
    zero k c a b d = elim (ℕ_discrete k (r - 1)) [ yes q ↦ rw q (this c d) | no q ↦ u.zero k c (omega arith) b d ]
