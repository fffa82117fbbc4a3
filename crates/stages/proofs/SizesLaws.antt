-- Laws of stage two at both widths.
--   rows_unlimited     where no sum is limited, stage two writes its lines as they are
use mathlib.Core.Path.{◌≡◌, ap, ◌∙◌}
use mathlib.Core.List.{List}
use Prim.Native.Nat.{ℕ, ◌+◌, ◌-◌, ◌*◌, ◌<◌}
use lib.IntN.{ℤ, pos}
use lib.ListN.{get_or}
use lib.Signed.{◌≤ℤ◌}
use Rattle.integers.specs.Shift.{pow2, round_shift}
use Rattle.integers.specs.Within.{Within}
use Rattle.h265.specs.Matrix.{abs_sum}
use Rattle.h265.specs.Transform.{block_at}
use Rattle.transform_1d.specs.Rows.{Filled}
use Rattle.transform_1d.proofs.RowsLaws.{filled_cong, filled-all}
use Rattle.transform_1d.proofs.MatrixLaws.{transform_line_within}
use Rattle.tiles.specs.Tile.{line_by}

module _ (t : ℕ → ℕ → ℤ) {n : ℕ} (s : ℕ) (d : List ℤ) (made : ℤ → ℤ) (b : (m : ℕ) → m < n → abs_sum t n m ≤ℤ pos 1862) (keeps : (x : ℤ) → Within 61014016 x → made (round_shift x s) ≡ round_shift x s)
    (small : (c m : ℕ) → c < n → m < n → Within 32768 (get_or d (c * n + m) (pos 0))) where
  line_kept : (c m : ℕ) → c < n → m < n → made (line_by t n (pow2 (s - 1)) s d c m) ≡ line_by t n (pow2 (s - 1)) s d c m
  unfolding line_by round_shift block_at
  line_kept c m a h = keeps _ (transform_line_within t n (λ k. block_at n d k c) m (b m h) (λ k i. small k c i a))

  pub rows_unlimited : {k : ℕ} {z : ℤ} {xs ys : List ℤ} → k ≡ n → z ≡ pow2 (s - 1) → Filled n n (λ c m. made (line_by t n z s d c m)) k xs ys
      → Filled n n (line_by t n (pow2 (s - 1)) s d) n xs ys
  rows_unlimited e f p = filled_cong (λ c m i j. ap (λ (y : ℤ). made (line_by t n y s d c m)) f ∙ line_kept c m i j) (filled-all n e p)
