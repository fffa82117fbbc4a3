-- What both stages of a block ask and give. Letters as in h265's Transform; s is the shift of stage two.
--   shifted_residual   the residual by a matrix, for a shift
--   BlockNeeds          what a block of size n asks
use Rattle.std.specs.Prelude.{List, ℕ, ◌+◌, ◌*◌, ◌<◌, ◌≤◌, ℤ, pos, get_or, length}
use Rattle.std.specs.Int.{w16}
use Rattle.std.proofs.Common.{SFits}
use Rattle.h265.specs.Transform.{block_at, columns_read, intermediate, stage_two}

unfoldable pub shifted_residual : (ℕ → ℕ → ℤ) → ℕ → ℕ → ℕ → List ℤ → ℕ → ℕ → ℤ
shifted_residual t n s nx xs m j = stage_two t n s (intermediate t n 15 (columns_read nx (block_at n xs))) m j

pub record BlockNeeds (n s nx : ℕ) (coeff : List ℤ) (out_length : ℕ) : Type 0 where
  pub least : 0 < s
  pub most : s ≤ 12
  pub columns : nx ≤ n
  pub long : n * n ≤ length coeff
  pub room : n * n ≤ out_length
  pub fits : (k c : ℕ) → k < n → c < nx → SFits w16 (get_or coeff (k * n + c) (pos 0))
