-- Tables of a block, in the search for the values of one coefficient. Letters: n size, t matrix, m and c row and column.
--   Holds n g xs           xs is 1,024 long and holds g by row and column, rows being n long
--   Filled n made xs       xs is 1,024 long, and each number in it may be made of its row and column
--   LineNeeds, StageNeeds      what one sum of a stage, and all of them ask
use Rattle.std.specs.Prelude.{◌≡◌, List, ℕ, ◌+◌, ◌*◌, ◌≤◌, ◌<◌, T, ℤ, pos, length, get_or}
use Rattle.integers.specs.Within.{Within}
use Rattle.h265.specs.Range.{is_size}
use Rattle.h265.specs.Transform.{block_at}

pub record Holds (n : ℕ) (g : ℕ → ℕ → ℤ) (xs : List ℤ) : Type 0 where
  pub long : length xs ≡ 1024
  pub at : (m c : ℕ) → m < n → c < n → block_at n xs m c ≡ g m c

pub record Filled (n : ℕ) (made : ℕ → ℕ → ℤ → Type 0) (xs : List ℤ) : Type 0 where
  pub long : length xs ≡ 1024
  pub at : (m c : ℕ) → m < n → c < n → made m c (block_at n xs m c)

pub record LineNeeds (n : ℕ) (t x : List ℤ) (m base stride : ℕ) : Type 0 where
  pub few : n ≤ 32
  pub column : m < n
  pub matrix : length t ≡ 1024
  pub values : length x ≡ 1024
  pub entries : (k : ℕ) → k < n → Within 90 (block_at n t k m)
  pub reads : (k : ℕ) → k < n → (base + k * stride < 1024) × Within 4194304 (get_or x (base + k * stride) (pos 0))

pub record StageNeeds (n : ℕ) (t x : List ℤ) : Type 0 where
  pub size : T (is_size n)
  pub matrix : length t ≡ 1024
  pub values : length x ≡ 1024
  pub entries : (k m : ℕ) → k < n → m < n → Within 90 (block_at n t k m)
  pub reads : (k c : ℕ) → k < n → c < n → Within 4194304 (block_at n x k c)
