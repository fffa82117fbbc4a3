-- The tables that a search reads, in a file of its own: the struct of a search has the second in its ghost field.
-- Letters: n size, r range, s shift of stage two, w number of bytes that say what is wanted.
--   Tables                 matrix, coefficients, sums of stage one, intermediate, sums of stage two, and the target
--   TablesNeeds            tables of n² elements whose probes are all in bounds
use Rattle.std.specs.Prelude.{◌≡◌, List, ℕ, ◌*◌, ◌≤◌, ◌<◌, T, ℤ, length}
use Rattle.integers.specs.Within.{Within}
use Rattle.h265.specs.Range.{is_size}
use Rattle.h265.specs.Transform.{block_at}

pub record Tables : Type 0 where
  pub matrix : List ℤ
  pub coeff : List ℤ
  pub ones : List ℤ
  pub between : List ℤ
  pub twos : List ℤ
  pub target : List ℤ

abbrev pub tables : List ℤ → List ℤ → List ℤ → List ℤ → List ℤ → List ℤ → Tables
tables t d ones between twos target = record { matrix = t; coeff = d; ones = ones; between = between; twos = twos; target = target }

pub record TablesNeeds (a : Tables) (n r s w : ℕ) : Type 0 where
  pub size : T (is_size n)
  pub range : r ≤ 22
  pub matrix : length a.matrix ≡ 1024
  pub coeff : length a.coeff ≡ 1024
  pub ones : length a.ones ≡ 1024
  pub between : length a.between ≡ 1024
  pub twos : length a.twos ≡ 1024
  pub target : n * n ≤ length a.target
  pub wanted : n * n ≤ w
  pub entries : (k m : ℕ) → k < n → m < n → Within 90 (block_at n a.matrix k m)
  pub values : (k c : ℕ) → k < n → c < n → Within 4194304 (block_at n a.coeff k c)
  pub sums : (m c : ℕ) → m < n → c < n → Within 12079595520 (block_at n a.ones m c)
  pub inside : (m c : ℕ) → m < n → c < n → Within 4194304 (block_at n a.between m c)
  pub sums_two : (m j : ℕ) → m < n → j < n → Within 12079595520 (block_at n a.twos m j)
  pub shift : (1 ≤ s) × (s ≤ 12)
