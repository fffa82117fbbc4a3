-- Whole blocks by the machine's numbers, as the working functions below the refusals have them.
--   flat_at, listed_at                 the coefficient at an index of a block of levels
--   direct_at                         the same by entries that stand at the index itself
--   flat_limited_at, listed_limited_at, direct_limited_at   level or result was limited there
--   spread_at                         the entry of a list that stands for an index at sizes 16 and 32, at index 0 too
--   flat_residual_at, listed_residual_at the residual at an index
--   residual_at                       the residual of the coefficient at an index
--   Counted f g k xs ys r            ys is xs with its first k elements replaced by f, and g holds at r of the first k indices
--   Room count input output          both buffers hold the block
--   Rows n r                         a size at which an entry stands for 2^r columns and rows
--   Coefficients count xs            the first elements are coefficients
--   Fills f i j xs ys                where xs has f at the indices below i, ys has f at those below j
use Rattle.std.specs.Prelude.{◌≡◌, Bool, List, ℕ, ◌-◌, ◌≤◌, ◌<◌, T, ℤ, pos, length, get_or}
use Rattle.integers.specs.Lists.{overwrite}
use Rattle.integers.specs.Within.{Within}
use Rattle.h265.specs.Limited.{count_of}
use Rattle.h265.specs.Range.{is_size, log2_size}
use Rattle.h265.specs.ScalingFactor.{ScalingList, repeated_position, scaling_factor}
use Rattle.h265.specs.TransformSkip.{ts_residual}
use Rattle.parameters.specs.declared.DequantParams.{DequantParams}
use Rattle.parameters.specs.declared.TransformSkipParams.{TransformSkipParams}
use Rattle.scaling_values.specs.Level.{flat_level, listed_level, listed_limited}

unfoldable pub flat_at : DequantParams → List ℤ → ℕ → ℤ
flat_at p levels i = flat_level p (get_or levels i (pos 0))

unfoldable pub listed_at : DequantParams → ScalingList → ℕ → List ℤ → ℕ → ℤ
listed_at p list n levels i = listed_level p (scaling_factor list n i) (get_or levels i (pos 0))

unfoldable pub direct_at : DequantParams → List ℕ → List ℤ → ℕ → ℤ
direct_at p entries levels i = listed_level p (get_or entries i 0) (get_or levels i (pos 0))

unfoldable pub flat_limited_at : DequantParams → List ℤ → ℕ → Bool
flat_limited_at p levels i = listed_limited p 16 (get_or levels i (pos 0))

unfoldable pub listed_limited_at : DequantParams → ScalingList → ℕ → List ℤ → ℕ → Bool
listed_limited_at p list n levels i = listed_limited p (scaling_factor list n i) (get_or levels i (pos 0))

unfoldable pub direct_limited_at : DequantParams → List ℕ → List ℤ → ℕ → Bool
direct_limited_at p entries levels i = listed_limited p (get_or entries i 0) (get_or levels i (pos 0))

unfoldable pub spread_at : List ℕ → ℕ → ℕ → ℕ
spread_at entries n i = get_or entries (repeated_position n i) 0

unfoldable pub flat_residual_at : TransformSkipParams → List ℤ → ℕ → ℤ
flat_residual_at p levels i = ts_residual p.tr_shift (flat_at p.dequant levels i)

unfoldable pub listed_residual_at : TransformSkipParams → ScalingList → ℕ → List ℤ → ℕ → ℤ
listed_residual_at p list n levels i = ts_residual p.tr_shift (listed_at p.dequant list n levels i)

unfoldable pub residual_at : ℤ → List ℤ → ℕ → ℤ
residual_at t coefficients i = ts_residual t (get_or coefficients i (pos 0))

pub record Counted (f : ℕ → ℤ) (g : ℕ → Bool) (k : ℕ) (xs ys : List ℤ) (r : ℕ) : Type 0 where
  pub out : ys ≡ overwrite k f xs
  pub count : r ≡ count_of g k

pub record Room (count input output : ℕ) : Type 0 where
  pub levels : count ≤ input
  pub places : count ≤ output

pub record Rows (n r : ℕ) : Type 0 where
  pub size : T (is_size n)
  pub large : 16 ≤ n
  pub repeats : r ≡ log2_size n - 3

pub record Coefficients (count : ℕ) (xs : List ℤ) : Type 0 where
  pub at : (i : ℕ) → i < count → Within 4194304 (get_or xs i (pos 0))

pub record Fills (f : ℕ → ℕ) (i j : ℕ) (xs ys : List ℕ) : Type 0 where
  pub same : length ys ≡ length xs
  pub more : ((k : ℕ) → k < i → get_or xs k 0 ≡ f k) → (k : ℕ) → k < j → get_or ys k 0 ≡ f k
