-- Entries that are laid out row by row.
--   Laid len n r places    the list is whole, each entry stands for 2^r columns and rows of a block of size n, and there is room for the block
--   Copied n row c xs ys   the first c entries of a row have become those of the row above it: where that row holds a function that has the same
--                          values in both rows, this row holds it too
use Rattle.std.specs.Prelude.{◌≡◌, List, ℕ, ◌+◌, ◌-◌, ◌*◌, ◌<◌, ◌≤◌, length}
use Rattle.scaling_values.specs.Work.{Rows, Fills}

pub record Laid (len n r places : ℕ) : Type 0 where
  pub rows : Rows n r
  pub whole : len ≡ 64
  pub room : n * n ≤ places

pub record Copied (n row c : ℕ) (xs ys : List ℕ) : Type 0 where
  pub same : length ys ≡ length xs
  pub fills : (f : ℕ → ℕ) → ((k : ℕ) → k < n → f (row * n - n + k) ≡ f (row * n + k)) → Fills f (row * n) (row * n + c) xs ys
