-- Which levels give a block's residual the target at every wanted sample: the edits of a block of levels, refused calls included. Rows 1, 2, 4,
-- 5, 6, 7 of docs/RULES.md's table. Letters as in edit_blocks/specs/Edits.antt; q QP' as given, list no list or one with its DC.
--   scaled_block           the n² coefficients of a block of levels
--   level_gives            with v in place of the level at index i the residual has the target at every wanted sample
--   least_level_edit, most_level_edit   the least and the most level of the range that do so, asked of every level; 1 and 0 where none does
--   level_edits_found       the edits of a block of levels
use Rattle.std.specs.Prelude.{Bool, List, ℕ, ◌*◌, ℤ, length, set}
use Rattle.integers.specs.Lists.{tabulate, overwrite}
use Rattle.h265.specs.Range.{transform_range}
use Rattle.h265.specs.Scaling.{scaled_at}
use Rattle.h265.specs.ScalingFactor.{ScalingList}
use Rattle.h265.specs.Transform.{residual}
use Rattle.transform_1d.specs.declared.Kind.{Kind}
use Rattle.transform_1d.specs.MatrixOf.{matrix_of}
use Rattle.scaling_values.specs.Given.{entries_of}
use Rattle.edit_values.specs.Values.{least_where, most_where}
use Rattle.edit_blocks.specs.Edits.{has_target}
use Rattle.edit_blocks.specs.Ladder.{level_edit_ladder}
use Rattle.edit_search.specs.Found.{Found, left, wrote}

unfoldable pub scaled_block : ScalingList → ℕ → ℕ → Bool → ℤ → List ℤ → List ℤ
scaled_block list n b x q levels = tabulate (n * n) (scaled_at list n b x q levels)

unfoldable pub level_gives : ScalingList → Kind → ℕ → ℕ → Bool → ℤ → List ℤ → List ℤ → List ℕ → ℕ → ℤ → Bool
level_gives list kind n b x q levels target wanted i v =
    has_target n (residual (matrix_of kind n) n b (transform_range b x) n (scaled_block list n b x q (set levels i v))) target wanted

unfoldable pub least_level_edit : ScalingList → Kind → ℕ → ℕ → Bool → ℤ → List ℤ → List ℤ → List ℕ → ℕ → ℤ
least_level_edit list kind n b x q levels target wanted i = least_where (transform_range b x) (level_gives list kind n b x q levels target wanted i)

unfoldable pub most_level_edit : ScalingList → Kind → ℕ → ℕ → Bool → ℤ → List ℤ → List ℤ → List ℕ → ℕ → ℤ
most_level_edit list kind n b x q levels target wanted i = most_where (transform_range b x) (level_gives list kind n b x q levels target wanted i)

unfoldable pub level_edits_found : ScalingList → Kind → ℕ → ℤ → ℕ → Bool → List ℤ → List ℤ → List ℕ → List ℤ → List ℤ → Found
level_edits_found list kind n q b x levels target wanted least most =
    level_edit_ladder (left least most)
    (wrote (overwrite (n * n) (least_level_edit list kind n b x q levels target wanted) least) (overwrite (n * n) (most_level_edit list kind n b x q levels target wanted) most))
    kind n b (entries_of list) (length levels) (length target) (length wanted) (length least) (length most)
