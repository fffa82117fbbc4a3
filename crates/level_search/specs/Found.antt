-- The levels of a whole block, refused calls included: rows 1, 2, 5, 6, 7 of the table, and row 11.
-- Letters: n size, q QP' as given, b depth, x extended precision; coeff the coefficients that are given, out the buffer of levels as lent.
--   scaling_at list n b x q i   the scaling of one level at index i of a block: `scaled_at` is this of the level there
--   missing_at                  row 11 at an index: no level gives its coefficient
--   first_missing               the first such index in row order, and n² where there is none
--   least_at                    the level of least size that gives the coefficient at an index
--   levels_found                what a call hands back: its answer, and the buffer of levels afterwards
--   Missing                    some coefficient of the block has no level, said of every level in the range
use Rattle.std.specs.Prelude.{Bool, cond, List, ℕ, ◌*◌, ◌/◌, ◌%◌, ◌<◌, ltb, ℤ, pos, nat_abs, length, get_or}
use Rattle.integers.specs.Lists.{overwrite}
use Rattle.integers.specs.Search.{first_where}
use Rattle.h265.specs.Range.{log2_size, transform_range}
use Rattle.h265.specs.Quantization.{clip_qp_prime}
use Rattle.h265.specs.Scaling.{bd_shift, scale_level}
use Rattle.h265.specs.ScalingFactor.{ScalingList, scaling_factor}
use Rattle.refusal.specs.declared.Refusal.TheVariants.{LevelMissing}
use Rattle.refusal.specs.Written.{Written, left, wrote}
use Rattle.refusal.specs.Condition.{bits32}
use Rattle.scaling_blocks.specs.Blocks.{scaling_ladder}
use Rattle.scaling_values.specs.Given.{entries_of}
use Rattle.least_level.specs.Level.{Gives, level_missing, least_level}

unfoldable pub scaling_at : ScalingList → ℕ → ℕ → Bool → ℤ → ℕ → ℤ → ℤ
scaling_at list n b x q i level =
    let r : ℕ = transform_range b x in
    scale_level r (bd_shift b (log2_size n) r) (nat_abs (clip_qp_prime b q)) (scaling_factor list n i) level

unfoldable pub missing_at : ScalingList → ℕ → ℕ → Bool → ℤ → List ℤ → ℕ → Bool
missing_at list n b x q coeff i = level_missing (scaling_at list n b x q i) (transform_range b x) (get_or coeff i (pos 0))

unfoldable pub first_missing : ScalingList → ℕ → ℕ → Bool → ℤ → List ℤ → ℕ
first_missing list n b x q coeff = first_where (n * n) (missing_at list n b x q coeff)

unfoldable pub least_at : ScalingList → ℕ → ℕ → Bool → ℤ → List ℤ → ℕ → ℤ
least_at list n b x q coeff i = least_level (scaling_at list n b x q i) (transform_range b x) (get_or coeff i (pos 0))

-- row 11 at the first of n² indices that `first` names, else the first n² elements of the buffer by `at`
unfoldable pub block_found : ℕ → ℕ → (ℕ → ℤ) → List ℤ → Written
block_found n first at out =
    cond (ltb first (n * n))
    (left out (LevelMissing (first / n) (first % n)))
    (wrote (overwrite (n * n) at out))

unfoldable pub levels_found : ScalingList → ℕ → ℤ → ℕ → Bool → List ℤ → List ℤ → Written
levels_found list n q b x coeff out =
    scaling_ladder (left out)
    (block_found n (first_missing list n b x q coeff) (least_at list n b x q coeff) out)
    bits32 n b x (entries_of list) (length coeff) (length out)

-- a coefficient of the block that no level in the range scales to
pub record Missing (list : ScalingList) (n b : ℕ) (x : Bool) (q : ℤ) (coeff : List ℤ) : Type 0 where
  pub index : ℕ
  pub inside : index < n * n
  pub none : (v : ℤ) → Gives (scaling_at list n b x q index) (transform_range b x) (get_or coeff index (pos 0)) v → ⊥
