-- What stages of a block ask of each other and give, where values are limited to the range as they are read.
--   limited_at r xs i       place i of xs, limited to the range
--   stage_of t n y s c m    output m of the line over column c of a block, rounded: what a stage writes to row c and column m
--   ColumnOf n c w          c is a column of a block of at most 32 rows, all of which a list of w values holds
--   ColumnPlaced           ys is xs with f 0, .., f (m - 1) down column c
--   NarrowColumn n c m xs  the first m values of column c of xs, whose rows are n long, fit 16 bits
--   SizeNeeds                what one stage of a block asks of its range, its shift, and the lengths of its source and its target
--   WholeStage q n m a       a stage of n points over q rows is one of m points over all m rows, and of a values
--   StagesNeeds              what both stages ask, with the column count
--   both_stages             the residual by a matrix, for a shift, of coefficients that are limited as they are read
use Rattle.std.specs.Prelude.{◌≡◌, List, ℕ, ◌+◌, ◌*◌, ◌<◌, ◌≤◌, ℤ, pos, get_or, length}
use Rattle.std.specs.Int.{w16}
use Rattle.std.proofs.Common.{SFits}
use Rattle.integers.specs.Shift.{round_shift}
use Rattle.h265.specs.Range.{clip_coeff}
use Rattle.h265.specs.Transform.{transform_line, columns_read, intermediate, stage_two}
use Rattle.stages_wide.specs.Wide.{limited_block}

abbrev pub limited_at : ℕ → List ℤ → ℕ → ℤ
limited_at r xs i = clip_coeff r (get_or xs i (pos 0))

abbrev pub stage_of : (ℕ → ℕ → ℤ) → ℕ → (ℕ → ℕ → ℤ) → ℕ → ℕ → ℕ → ℤ
stage_of t n y s c m = round_shift (transform_line t n (λ k. y k c) m) s

pub record ColumnOf (n c w : ℕ) : Type 0 where
  pub most : n ≤ 32
  pub inside : c < n
  pub whole : n * n ≤ w

pub record ColumnPlaced (n c : ℕ) (f : ℕ → ℤ) (m : ℕ) (xs ys : List ℤ) : Type 0 where
  pub long : length ys ≡ length xs
  pub done : (k : ℕ) → k < m → get_or ys (k * n + c) (pos 0) ≡ f k
  pub kept : (i : ℕ) → ((k : ℕ) → k < m → i ≡ k * n + c → ⊥) → get_or ys i (pos 0) ≡ get_or xs i (pos 0)

pub record NarrowColumn (n c m : ℕ) (xs : List ℤ) : Type 0 where
  pub at : (k : ℕ) → k < m → SFits w16 (get_or xs (k * n + c) (pos 0))

pub record SizeNeeds (n r s source_length target_length : ℕ) : Type 0 where
  pub range_least : 15 ≤ r
  pub range_most : r ≤ 22
  pub parts : r ≤ s + 15
  pub least : 4 ≤ s
  pub most : s ≤ 12
  pub source : n * n ≤ source_length
  pub room : n * n ≤ target_length

pub record WholeStage (q n m a : ℕ) : Type 0 where
  pub rows : q ≡ m
  pub points : n ≡ m
  pub values : a ≡ m * m

pub record StagesNeeds (n s r nx source_length target_length : ℕ) : Type 0 where
  pub least : 4 ≤ s
  pub most : s ≤ 12
  pub range_least : 15 ≤ r
  pub range_most : r ≤ 22
  pub parts : r ≤ s + 15
  pub columns : nx ≤ n
  pub source : n * n ≤ source_length
  pub room : n * n ≤ target_length

abbrev pub both_stages : (ℕ → ℕ → ℤ) → ℕ → ℕ → ℕ → ℕ → List ℤ → ℕ → ℕ → ℤ
both_stages t n s r nx xs = stage_two t n s (intermediate t n r (columns_read nx (limited_block r n xs)))
