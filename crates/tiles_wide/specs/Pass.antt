-- A stage over 32-bit values of the range R, from 15 to 22.
--   limited_list r w xs     the first w values of xs, limited to the range
--   PassNeeds, PassGives     what a stage over 32-bit values asks, and what it gives: lines over the limited values, rounded, as rows
use Rattle.std.specs.Prelude.{List, ℕ, ◌+◌, ◌*◌, ◌-◌, ◌<◌, ◌≤◌, ℤ, pos, get_or}
use Rattle.integers.specs.Lists.{tabulate}
use Rattle.integers.specs.Shift.{pow2}
use Rattle.h265.specs.Range.{clip_coeff}
use Rattle.transform_1d.specs.Rows.{Filled}
use Rattle.tiles.specs.Tile.{line_value}

unfoldable pub limited_list : ℕ → ℕ → List ℤ → List ℤ
limited_list r w xs = tabulate w (λ i. clip_coeff r (get_or xs i (pos 0)))

pub record PassNeeds (q n r count s source_length out_length : ℕ) : Type 0 where
  pub range_least : 15 ≤ r
  pub range_most : r ≤ 22
  pub parts : r ≤ s + 15
  pub shift_least : 0 < s
  pub shift_most : s ≤ 12
  pub source : q * n ≤ source_length
  pub few : count ≤ n
  pub room : count * n ≤ out_length

pub record PassGives (q n r count s : ℕ) (xs out out₂ : List ℤ) : Type 0 where
  pub rows : Filled n n (line_value n (pow2 (s - 1)) s (limited_list r (q * n) xs)) count out out₂
