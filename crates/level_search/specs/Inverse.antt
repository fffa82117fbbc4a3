-- What the search for levels has to do with scaling: the statements; `proofs/InverseLaws.antt` proves each under the name beside it.
--   checked                       the number of the first refusal up to 7 that applies to a call, and 0 where none does
--   LeastLevelIsUnique            least_level_is_unique: at every index of a block, two levels of least size that give one coefficient are equal
--   RefusesWhereALevelIsMissing   refuses_where_a_level_is_missing: past the checks up to 7, a call refuses exactly where some coefficient has no level
--   LevelsFoundAreLeast           levels_found_are_least: at every index, what a call that answered 0 leaves is the level of least size that gives the coefficient
--   LevelsScaleBack               levels_scale_back: the block scaled from the levels of a call that answered 0 is the block that was given
use Rattle.std.specs.Prelude.{◌≡◌, ◌↔◌, Bool, List, ℕ, ◌*◌, ◌≤◌, ◌<◌, T, ℤ, pos, length, get_or}
use Rattle.h265.specs.Range.{is_size, transform_range}
use Rattle.h265.specs.ScalingFactor.{ScalingList}
use Rattle.h265.specs.Limited.{limited_count}
use Rattle.refusal.specs.Refusal.{number}
use Rattle.refusal.specs.Condition.{bits32}
use Rattle.scaling_blocks.specs.Blocks.{scaling_ladder, dequantized, counted}
use Rattle.scaling_values.specs.Given.{entries_of}
use Rattle.least_level.specs.Level.{LeastLevel}
use Rattle.level_search.specs.Found.{scaling_at, levels_found, Missing}

unfoldable pub checked : ScalingList → ℕ → ℕ → Bool → ℕ → ℕ → ℕ
checked list n b x coefficients levels = scaling_ladder number 0 bits32 n b x (entries_of list) coefficients levels

abbrev pub LeastLevelIsUnique : Type 0
LeastLevelIsUnique =
    (list : ScalingList) (n b : ℕ) (x : Bool) (q : ℤ) (i : ℕ) → T (is_size n) → (8 ≤ b) × (b ≤ 16)
    → (z v w : ℤ)
    → LeastLevel (scaling_at list n b x q i) (transform_range b x) z v
    → LeastLevel (scaling_at list n b x q i) (transform_range b x) z w
    → v ≡ w

abbrev pub RefusesWhereALevelIsMissing : Type 0
RefusesWhereALevelIsMissing =
    (list : ScalingList) (n : ℕ) (q : ℤ) (b : ℕ) (x : Bool) (coeff out : List ℤ)
    → checked list n b x (length coeff) (length out) ≡ 0
    → ((levels_found list n q b x coeff out).answer.number ≡ 0 → ⊥) ↔ Missing list n b x q coeff

abbrev pub LevelsFoundAreLeast : Type 0
LevelsFoundAreLeast =
    (list : ScalingList) (n : ℕ) (q : ℤ) (b : ℕ) (x : Bool) (coeff out : List ℤ)
    → (levels_found list n q b x coeff out).answer.number ≡ 0
    → (i : ℕ) → i < n * n
    → LeastLevel (scaling_at list n b x q i) (transform_range b x) (get_or coeff i (pos 0)) (get_or (levels_found list n q b x coeff out).out i (pos 0))

abbrev pub LevelsScaleBack : Type 0
LevelsScaleBack =
    (list : ScalingList) (n : ℕ) (q : ℤ) (b : ℕ) (x : Bool) (coeff out : List ℤ)
    → (levels_found list n q b x coeff out).answer.number ≡ 0
    → dequantized bits32 list n q b x (levels_found list n q b x coeff out).out coeff
    ≡ counted (limited_count list n b x q (levels_found list n q b x coeff out).out) coeff
