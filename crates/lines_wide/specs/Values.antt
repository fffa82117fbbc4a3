-- What a line on values of up to 23 bits asks, and what it gives.
--   Term u x             an entry of a matrix, and a value
--   WideEntries t        none of the four entries of t is above 90 in size
--   products_4 t x       the sum of four products
--   size_4 t             the sum of the sizes of four entries
--   WideValues n x       none of the first n values is above 2^22 in size
--   WideOutputs t n x r  r is the n-point line of the matrix t over x, and none of it is above 479 × 2^22 in size
--   odd_rows k j          the odd rows of the 8-point matrix, left half
use Rattle.std.specs.Prelude.{◌≡◌, List, ℕ, ◌+◌, ◌*◌, ◌^◌, ◌<◌, ℤ, pos, nat_abs, ◌+ℤ◌, ◌*ℤ◌, get_or, length}
use Rattle.integers.specs.Within.{Within}
use Rattle.h265.specs.Matrix.{trans_matrix}
use Rattle.h265.specs.Transform.{transform_line}

pub record Term (u x : ℤ) : Type 0 where
  pub entry : Within 90 u
  pub value : Within (2 ^ 22) x

pub record WideEntries (t : List ℤ) : Type 0 where
  pub at : (k : ℕ) → k < 4 → Within 90 (get_or t k (pos 0))

abbrev pub products_4 : List ℤ → List ℤ → ℤ
products_4 t x =
    (get_or t 0 (pos 0) *ℤ get_or x 0 (pos 0) +ℤ get_or t 1 (pos 0) *ℤ get_or x 1 (pos 0))
    +ℤ (get_or t 2 (pos 0) *ℤ get_or x 2 (pos 0) +ℤ get_or t 3 (pos 0) *ℤ get_or x 3 (pos 0))

abbrev pub size_4 : List ℤ → ℕ
size_4 t = nat_abs (get_or t 0 (pos 0)) + nat_abs (get_or t 1 (pos 0)) + nat_abs (get_or t 2 (pos 0)) + nat_abs (get_or t 3 (pos 0))

pub record WideValues (n : ℕ) (x : List ℤ) : Type 0 where
  pub at : (k : ℕ) → k < n → Within (2 ^ 22) (get_or x k (pos 0))

pub record WideOutputs (t : ℕ → ℕ → ℤ) (n : ℕ) (x r : List ℤ) : Type 0 where
  pub long : length r ≡ n
  pub output : (j : ℕ) → j < n → get_or r j (pos 0) ≡ transform_line t n (λ k. get_or x k (pos 0)) j
  pub bound : (j : ℕ) → j < n → Within (479 * 2 ^ 22) (get_or r j (pos 0))

abbrev pub odd_rows : ℕ → ℕ → ℤ
odd_rows k j = trans_matrix 8 (2 * k + 1) j
