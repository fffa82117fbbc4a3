-- A value limited to the range R as two parts of 16 bits, so that the 16-bit lines serve every range: with k = R - 15 it is 2^k × h + l.
--   high_of k x             h = x >> k, limited to 16 bits
--   low_of k x              l = x - 2^k × h, limited to 0 .. 2^k - 1
--   SplitNeeds, SplitGives     what a stage over both parts asks, and what it gives: the sums of both lines, shifted, as rows
use Rattle.std.specs.Prelude.{List, ℕ, ◌≤◌, ℤ, pos, ◌+ℤ◌, ◌-ℤ◌, ◌*ℤ◌, map}
use Rattle.integers.specs.Clip.{clip3}
use Rattle.integers.specs.Shift.{pow2, shift_right}
use Rattle.h265.specs.Range.{clip_coeff}
use Rattle.transform_1d.specs.Rows.{Filled}
use Rattle.tiles.specs.Tile.{first_rows, line_value, StageNeeds}

unfoldable pub high_of : ℕ → ℤ → ℤ
high_of k x = clip_coeff 15 (shift_right x k)

unfoldable pub low_of : ℕ → ℤ → ℤ
low_of k x = clip3 (pos 0) (pow2 k -ℤ pos 1) (x -ℤ pow2 k *ℤ high_of k x)

pub record SplitNeeds (q n k source_length count : ℕ) (h : ℤ) (by out_length : ℕ) : Type 0 where
  pub stage : StageNeeds q n source_length count h k out_length
  pub part : k ≤ 7
  pub shift : by ≤ 12

abbrev pub SplitGives : ℕ → ℕ → ℕ → List ℤ → ℕ → ℤ → ℕ → List ℤ → List ℤ → Type 0
SplitGives q n k xs count h by out out₂ =
    Filled n n (λ c m. shift_right (line_value n h k (first_rows q n (map (low_of k) xs)) c m +ℤ line_value n (pos 0) 0 (first_rows q n (map (high_of k) xs)) c m) by) count out out₂
