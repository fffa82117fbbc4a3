-- What the functions below the refusals hold.
--   ColumnOf t n m xs           xs begins with the n entries of column m of the matrix t
--   product_of u v n d k c       u(k) × v(c) × coefficient (k, c), for two columns of a matrix
use Rattle.std.specs.Prelude.{◌≡◌, List, ℕ, ◌<◌, ℤ, pos, ◌*ℤ◌, get_or}
use Rattle.h265.specs.Transform.{block_at}

pub record ColumnOf (t : ℕ → ℕ → ℤ) (n m : ℕ) (xs : List ℤ) : Type 0 where
  pub at : (k : ℕ) → k < n → get_or xs k (pos 0) ≡ t k m

unfoldable pub product_of : List ℤ → List ℤ → ℕ → List ℤ → ℕ → ℕ → ℤ
product_of u v n d k c = (get_or u k (pos 0) *ℤ get_or v c (pos 0)) *ℤ block_at n d k c
