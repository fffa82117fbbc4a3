-- Examples as one list of cases under one statement: the exact product, the residual beside it, and the bound. Among them a block that goes
-- past half a step by the rounding of stage one, and one that goes past the bound since a stage-one value was limited.
use mathlib.Core.Path.{refl}
use mathlib.Core.Bool.{Bool, true, false}
use mathlib.Core.List.{List, [], ◌∷◌, ◌++◌}
use Prim.Native.Nat.{ℕ, ◌+◌}
use lib.IntN.{ℤ, pos, neg_ℤ, ◌-ℤ◌, ◌*ℤ◌}
use lib.ListN.{replicate}
use Rattle.integers.specs.Examples.{Case, AllHold, ◌gives◌}
use Rattle.integers.specs.Clip.{clip3}
use Rattle.integers.specs.Lists.{tabulate, tabulate_from}
use Rattle.integers.specs.Shift.{pow2, shift_right, round_shift}
use Rattle.integers.specs.Sum.{sum}
use Rattle.h265.specs.Matrix.{folding_values, folding, folded_entry, folded_angle, trans_matrix32, trans_matrix, dst_entries, dst_matrix}
use Rattle.h265.specs.Range.{transform_range, coeff_min, coeff_max, clip_coeff}
use Rattle.h265.specs.Transform.{transform_line, block_at, columns_read, stage_one_sum, stage_one_value, intermediate, stage_two_sum, stage_two_shift, stage_two, residual}
use Rattle.transform_1d.specs.declared.Kind.{Kind}
use Rattle.transform_1d.specs.declared.Kind.TheVariants.{Dct, Dst}
use Rattle.transform_1d.specs.MatrixOf.{matrix_of}
use Rattle.rounding.specs.Exact.{exact_product, dct_sum, entry_sum, shift_of, rounding_bound}

same : ℤ → List ℤ
same z = replicate 4 z

-- a 4×4 block with one coefficient
only : ℕ → ℤ → List ℤ
only i z = replicate i (pos 0) ++ z ∷ replicate 15 (pos 0)

-- 32767 in column 0
full : List ℤ
full = let row : List ℤ = pos 32767 ∷ replicate 3 (pos 0) in row ++ row ++ row ++ row

-- E in row 0 of a 4×4 block
exact_row : Kind → ℕ → List ℤ → List ℤ
exact_row kind nx xs = tabulate 4 (exact_product (matrix_of kind 4) 4 nx xs 0)

-- 2^(7 + s2) × the residual, less E, in row 0 of a 4×4 block
differences : Kind → ℕ → List ℤ → List ℤ
differences kind b xs =
    tabulate 4 (λ j. pow2 (7 + shift_of b false) *ℤ residual (matrix_of kind 4) 4 b (transform_range b false) 4 xs 0 j -ℤ exact_product (matrix_of kind 4) 4 4 xs 0 j)

bounds : ℕ → Bool → List ℤ
bounds b x =
    pos (rounding_bound Dct 4 b x) ∷ pos (rounding_bound Dct 8 b x) ∷ pos (rounding_bound Dct 16 b x) ∷ pos (rounding_bound Dct 32 b x)
    ∷ pos (rounding_bound Dst 4 b x) ∷ []

pub examples : List (Case (List ℤ))
unfolding only full same exact_row differences bounds
examples =
    -- half a step off
    (exact_row Dct 4 (only 0 (pos 64)) gives same (pos 262144))
    ∷ (differences Dct 8 (only 0 (pos 64)) gives same (pos 262144))
    -- the columns read, and none of the others
    ∷ (exact_row Dct 4 (only 3 (pos 64)) gives (pos 147456 ∷ neg_ℤ (pos 339968) ∷ pos 339968 ∷ neg_ℤ (pos 147456) ∷ []))
    ∷ (exact_row Dct 3 (only 3 (pos 64)) gives same (pos 0))
    ∷ (exact_row Dst 4 (only 0 (pos 64)) gives (pos 53824 ∷ pos 102080 ∷ pos 137344 ∷ pos 155904 ∷ []))
    ∷ (differences Dst 8 (only 0 (pos 64)) gives (neg_ℤ (pos 53824) ∷ neg_ℤ (pos 102080) ∷ neg_ℤ (pos 137344) ∷ neg_ℤ (pos 155904) ∷ []))
    -- past half a step, which is 1024 here, by the rounding of stage one
    ∷ (differences Dct 16 (only 0 (pos 1)) gives same (pos 4096))
    -- past the bound, which is 277952 here: 63230 was limited to 32767
    ∷ (differences Dct 8 full gives same (neg_ℤ (pos 249545280)))
    -- the bounds of 4, 8, 16 and 32 points and of the DST
    ∷ (bounds 8 false gives (pos 277952 ∷ pos 292800 ∷ pos 322304 ∷ pos 381312 ∷ pos 277632 ∷ []))
    ∷ (bounds 12 true gives (pos 146880 ∷ pos 161728 ∷ pos 191232 ∷ pos 250240 ∷ pos 146560 ∷ []))
    ∷ (bounds 16 false gives (pos 16832 ∷ pos 31680 ∷ pos 61184 ∷ pos 120192 ∷ pos 16512 ∷ []))
    ∷ []

pub examples_hold : AllHold examples
unfolding only full same exact_row differences bounds examples transform_range coeff_min coeff_max clip_coeff folding_values folding folded_entry folded_angle trans_matrix32 trans_matrix dst_entries dst_matrix transform_line block_at columns_read stage_one_sum stage_one_value intermediate stage_two_sum stage_two_shift stage_two residual clip3 tabulate tabulate_from shift_right round_shift sum matrix_of exact_product dct_sum entry_sum shift_of rounding_bound
examples_hold = refl
