-- What a loop has stored in a list: a run of places, and rows of a block.
--   Placed at w f xs ys       ys is xs with f 0, .., f (w - 1) from place at on
--   Filled n w g r xs ys      ys is xs with g in the first w columns of its first r rows, rows being n long
use Rattle.std.specs.Prelude.{◌≡◌, List, ℕ, ◌+◌, ◌*◌, ◌<◌, ℤ, pos, get_or, length}

pub record Placed (at w : ℕ) (f : ℕ → ℤ) (xs ys : List ℤ) : Type 0 where
  pub long : length ys ≡ length xs
  pub done : (j : ℕ) → j < w → get_or ys (at + j) (pos 0) ≡ f j
  pub kept : (i : ℕ) → ((j : ℕ) → j < w → i ≡ at + j → ⊥) → get_or ys i (pos 0) ≡ get_or xs i (pos 0)

pub record Filled (n w : ℕ) (g : ℕ → ℕ → ℤ) (rows : ℕ) (xs ys : List ℤ) : Type 0 where
  pub long : length ys ≡ length xs
  pub done : (r c : ℕ) → r < rows → c < w → get_or ys (r * n + c) (pos 0) ≡ g r c
  pub kept : (i : ℕ) → ((r c : ℕ) → r < rows → c < w → i ≡ r * n + c → ⊥) → get_or ys i (pos 0) ≡ get_or xs i (pos 0)
