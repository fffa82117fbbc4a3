-- Rotation by half a turn, and accumulated residuals. H.265, clause 8.6, range extensions.
-- A block is a function of the index in row order: i is row i / n and column i % n. Letters: n size, a accumulation, t whether it is rotated.
--   rotated_index n i         the place at row n - 1 - k and column n - 1 - c, for that at row k and column c
--   rotated t n f            the block f, with the value of that place at each place
--   accumulated_row n f i     the sum of the samples of i's row, from column 0 to i's
--   accumulated_column n f i  the sum of the samples of i's column, from row 0 to i's
--   accumulated a n f        the samples, or either sum, as the caller says
--   modified a t n s f       values that are rotated, then shifted one by one by s, then accumulated: the clause's order
use Rattle.std.specs.Prelude.{Bool, cond, ℕ, suc, ◌+◌, ◌-◌, ◌*◌, ◌/◌, ◌%◌, ℤ}
use Rattle.integers.specs.Sum.{sum}
use Rattle.block_tool_rules.specs.declared.Accumulate.{Accumulate}
use Rattle.block_tool_rules.specs.declared.Accumulate.TheVariants.{Off, AlongRows, DownColumns}

unfoldable pub rotated_index : ℕ → ℕ → ℕ
rotated_index n i = (n - 1 - i / n) * n + (n - 1 - i % n)

unfoldable pub rotated : Bool → ℕ → (ℕ → ℤ) → ℕ → ℤ
rotated t n f i = f (cond t (rotated_index n i) i)

unfoldable pub accumulated_row : ℕ → (ℕ → ℤ) → ℕ → ℤ
accumulated_row n f i = sum (suc (i % n)) (λ c. f (i / n * n + c))

unfoldable pub accumulated_column : ℕ → (ℕ → ℤ) → ℕ → ℤ
accumulated_column n f i = sum (suc (i / n)) (λ k. f (k * n + i % n))

abbrev pub accumulated : Accumulate → ℕ → (ℕ → ℤ) → ℕ → ℤ
accumulated Off n f i = f i
accumulated AlongRows n f i = accumulated_row n f i
accumulated DownColumns n f i = accumulated_column n f i

unfoldable pub modified : Accumulate → Bool → ℕ → (ℤ → ℤ) → (ℕ → ℤ) → ℕ → ℤ
modified a t n s f = accumulated a n (λ i. s (rotated t n f i))
