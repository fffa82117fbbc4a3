-- Rows of a block in row order.
--   RowsUsed coeff n nx r     rows from r on are zero in the first nx columns
use Rattle.std.specs.Prelude.{◌≡◌, List, ℕ, ◌+◌, ◌*◌, ◌≤◌, ◌<◌, ℤ, pos, get_or}

pub record RowsUsed (coeff : List ℤ) (n nx r : ℕ) : Type 0 where
  pub most : r ≤ n
  pub zero : (k c : ℕ) → r ≤ k → k < n → c < nx → get_or coeff (k * n + c) (pos 0) ≡ pos 0
