-- The search for levels, below the refusals: by the machine's numbers of a block.
--   beyond f r end strict o   the level at place o of the range scales to `end` or above; strict: above
--   LevelSpan                 from where on levels scale to low or above, and from where on above high
--   scales_between             a level scales to low .. high
--   least_scaling, most_scaling the least and the most level of the range that do
--   scaled_by                  the n² coefficients of a block of levels
--   gives_by                   with v in place of the level at index i the residual has the target at every wanted sample
--   least_level_by, most_level_by the least and the most level of the range that do
--   LevelsNeeds                 what the search of a whole block asks
use Rattle.std.specs.Prelude.{◌≡◌, Bool, true, false, not, ◌&&◌, cond, List, ℕ, ◌*◌, ◌≤◌, ℤ, pos, get_or}
use Rattle.std.specs.Int.Signed.{lt_z}
use Rattle.integers.specs.Lists.{tabulate}
use Rattle.h265.specs.Range.{transform_range, outside_range}
use Rattle.h265.specs.ScalingFactor.{ScalingList}
use Rattle.parameters.specs.declared.DequantParams.{DequantParams}
use Rattle.transform_1d.specs.declared.Kind.{Kind}
use Rattle.transform_1d.specs.declared.Kind.TheVariants.{Dst}
use Rattle.scaling_values.specs.Factor.{WholeList}
use Rattle.scaling_values.specs.Level.{listed_level}
use Rattle.level_search.specs.Work.{scaling_by, Invertible}
use Rattle.edit_values.specs.declared.interval.Span.{Span}
use Rattle.edit_values.specs.Values.{value_count, value_at, least_where, most_where}
use Rattle.edit_values.specs.Sample.{Split}
use Rattle.edit_blocks.specs.Edits.{gives_target}

unfoldable pub beyond : (ℤ → ℤ) → ℕ → ℤ → Bool → ℕ → Bool
beyond f r end strict o = cond strict (lt_z end (f (value_at r o))) (not (lt_z (f (value_at r o)) end))

pub record LevelSpan (f : ℤ → ℤ) (r : ℕ) (low high : ℤ) (s : Span) : Type 0 where
  pub from : Split (beyond f r low false) 0 (value_count r) s.from
  pub to : Split (beyond f r high true) 0 (value_count r) s.to

unfoldable pub scales_between : (ℤ → ℤ) → ℤ → ℤ → ℤ → Bool
scales_between f low high v = not (lt_z (f v) low) && not (lt_z high (f v))

unfoldable pub least_scaling : (ℤ → ℤ) → ℕ → ℤ → ℤ → ℤ
least_scaling f r low high = least_where r (scales_between f low high)

unfoldable pub most_scaling : (ℤ → ℤ) → ℕ → ℤ → ℤ → ℤ
most_scaling f r low high = most_where r (scales_between f low high)

unfoldable pub scaled_by : DequantParams → ScalingList → ℕ → List ℤ → List ℤ
scaled_by by list n levels = tabulate (n * n) (λ i. scaling_by by list n i (get_or levels i (pos 0)))

unfoldable pub gives_by : DequantParams → ScalingList → Kind → ℕ → ℕ → Bool → List ℤ → List ℤ → List ℕ → ℕ → ℤ → Bool
gives_by by list kind n b x levels target wanted i v = gives_target kind n b x (scaled_by by list n levels) target wanted i (scaling_by by list n i v)

unfoldable pub least_level_by : DequantParams → ScalingList → Kind → ℕ → ℕ → Bool → List ℤ → List ℤ → List ℕ → ℕ → ℤ
least_level_by by list kind n b x levels target wanted i = least_where (transform_range b x) (gives_by by list kind n b x levels target wanted i)

unfoldable pub most_level_by : DequantParams → ScalingList → Kind → ℕ → ℕ → Bool → List ℤ → List ℤ → List ℕ → ℕ → ℤ
most_level_by by list kind n b x levels target wanted i = most_where (transform_range b x) (gives_by by list kind n b x levels target wanted i)

pub record LevelsNeeds (by : DequantParams) (kind : Kind) (n b : ℕ) (x : Bool) (entries levels target wanted least most : ℕ) : Type 0 where
  pub invertible : Invertible by
  pub inside : (m : ℕ) (v : ℤ) → outside_range (transform_range b x) (listed_level by m v) ≡ false
  pub list : WholeList entries n
  pub dst : kind ≡ Dst → n ≡ 4
  pub depth : (8 ≤ b) × (b ≤ 16)
  pub given : n * n ≤ levels
  pub targets : n * n ≤ target
  pub wants : n * n ≤ wanted
  pub leasts : n * n ≤ least
  pub mosts : n * n ≤ most
