-- What the functions below the refusals rely on.
-- Letters: n size, b depth, x extended precision.
--   Accepted p n               the parameters are within their rows, and the size is one of theirs
--   Leaves m f k xs ys r       ys is xs with its first k elements replaced by f, and r is m
--   OpensBlock                 a block of levels was opened: its levels, its record and its buffers, and the rows and the count that are written of it
use Rattle.std.specs.Prelude.{◌≡◌, false, List, ℕ, ◌*◌, T, ℤ, take}
use Rattle.integers.specs.Lists.{overwrite}
use Rattle.h265.specs.Range.{is_size}
use Rattle.h265.specs.ScalingFactor.{ScalingList}
use Rattle.refusal.specs.Condition.{depth_refused}
use Rattle.transform_1d.specs.declared.Kind.{Kind}
use Rattle.block_rules.specs.Edit.{Buffers, buffers}
use Rattle.block_rules.specs.declared.LevelsOpened.{LevelsOpened}
use Rattle.block_rules.specs.Level.{level_opened}
use Rattle.feed_format.specs.declared.Parameters.{Parameters}
use Rattle.feed_format.specs.Format.{dst_refused, level_at, levels_of}
use Rattle.feed_rules.specs.Block.{opening_of, block_residual, block_limited}

pub record Accepted (p : Parameters) (n : ℕ) : Type 0 where
  pub size : T (is_size n)
  pub depth : depth_refused p.precision.bit_depth ≡ false
  pub dst : dst_refused p.mode n ≡ false

pub record Leaves (m : ℕ) (f : ℕ → ℤ) (k : ℕ) (xs ys : List ℤ) (r : ℕ) : Type 0 where
  pub out : ys ≡ overwrite k f xs
  pub limited : r ≡ m

pub record OpensBlock (list : ScalingList) (p : Parameters) (kind : Kind) (n : ℕ) (body : List ℕ) (levels : List ℤ) (lent : Buffers) (r : LevelsOpened) (ls d g e : List ℤ) : Type 0 where
  pub levels_are : ls ≡ overwrite (n * n) (level_at body) levels
  pub block : r.block ≡ (level_opened (opening_of kind list p n) ls lent).block
  pub buffers_are : buffers d g e ≡ (level_opened (opening_of kind list p n) ls lent).buffers
  pub limited : r.limited ≡ block_limited list p n (levels_of n body)
  pub rows : take (n * n) e ≡ block_residual list p n (levels_of n body)
