-- The search by the machine's numbers, as the functions below the refusals have it; proofs/SideLaws.antt takes it to the definition.
-- The level of least size that gives x stands on the side of zero where x does, so that its size is searched there.
--   sided x k              the level of size k on x's side
--   side_end p x            the largest size on x's side
--   reaches f x k          the level of size k on x's side scales to x or past it
--   nearest_size p f x      the least size that reaches x, and the end of x's side where none does
--   nearest p f x          the level of that size
--   scaling_by, nearest_at   scaling, and that level, at an index of a block
--   misses_at, first_miss    it does not scale to the coefficient there; the first such index
--   Invertible p           what the search relies on
--   Searched, SearchedAll  what a search over a block answers and leaves: the first index without a level, or all levels
use Rattle.std.specs.Prelude.{◌≡◌, Bool, not, cond, List, Option, Some, None, ℕ, ◌*◌, ◌<◌, ℤ, pos, neg_ℤ, nat_abs, length, get_or, ◌≤ℤ◌}
use Rattle.std.specs.Int.Signed.{lt_z}
use Rattle.integers.specs.Lists.{overwrite}
use Rattle.integers.specs.Search.{first_where}
use Rattle.h265.specs.ScalingFactor.{ScalingList, scaling_factor}
use Rattle.parameters.specs.declared.DequantParams.{DequantParams}
use Rattle.scaling_values.specs.Level.{listed_level, Manageable}
use Rattle.least_level.specs.Level.{equal, Scales}

unfoldable pub sided : ℤ → ℕ → ℤ
sided x k = cond (lt_z x (pos 0)) (neg_ℤ (pos k)) (pos k)

unfoldable pub side_end : DequantParams → ℤ → ℕ
side_end p x = cond (lt_z x (pos 0)) (nat_abs p.clip_min) (nat_abs p.clip_max)

unfoldable pub reaches : (ℤ → ℤ) → ℤ → ℕ → Bool
reaches f x k = cond (lt_z x (pos 0)) (not (lt_z x (f (sided x k)))) (not (lt_z (f (sided x k)) x))

unfoldable pub nearest_size : DequantParams → (ℤ → ℤ) → ℤ → ℕ
nearest_size p f x = first_where (side_end p x) (reaches f x)

unfoldable pub nearest : DequantParams → (ℤ → ℤ) → ℤ → ℤ
nearest p f x = sided x (nearest_size p f x)

unfoldable pub scaling_by : DequantParams → ScalingList → ℕ → ℕ → ℤ → ℤ
scaling_by p list n i level = listed_level p (scaling_factor list n i) level

unfoldable pub nearest_at : DequantParams → ScalingList → ℕ → List ℤ → ℕ → ℤ
nearest_at p list n coeff i = nearest p (scaling_by p list n i) (get_or coeff i (pos 0))

unfoldable pub misses_at : DequantParams → ScalingList → ℕ → List ℤ → ℕ → Bool
misses_at p list n coeff i = not (equal (scaling_by p list n i (nearest_at p list n coeff i)) (get_or coeff i (pos 0)))

unfoldable pub first_miss : DequantParams → ScalingList → ℕ → List ℤ → ℕ
first_miss p list n coeff = first_where (n * n) (misses_at p list n coeff)

pub record Invertible (p : DequantParams) : Type 0 where
  pub manageable : Manageable p
  pub least : p.clip_min ≤ℤ pos 0
  pub most : pos 0 ≤ℤ p.clip_max
  pub scales : (m : ℕ) → Scales (listed_level p m)

pub record SearchedAll (p : DequantParams) (list : ScalingList) (n : ℕ) (coeff before after : List ℤ) : Type 0 where
  pub none : first_miss p list n coeff ≡ n * n
  pub same : length after ≡ length before
  pub levels : after ≡ overwrite (n * n) (nearest_at p list n coeff) before

abbrev pub Searched : DequantParams → ScalingList → ℕ → List ℤ → List ℤ → List ℤ → Option ℕ → Type 0
Searched p list n coeff before after None = SearchedAll p list n coeff before after
Searched p list n coeff before after (Some i) = (first_miss p list n coeff ≡ i) × (i < n * n)
