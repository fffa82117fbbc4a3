-- Examples of the rules as one list of cases under one statement: rotation at size 4, sums along rows and down columns, all of them with a shift
-- between rotation and accumulation, the order of the refusals, and how many coefficients were limited.
--   examples       the list of cases
--   ExamplesHold   the statement: every definition gives what is right
use Rattle.std.specs.Prelude.{Bool, true, false, List, [], ◌∷◌, ℕ, suc, ℤ, pos, negsuc, get_or, replicate}
use Rattle.integers.specs.Examples.{Case, AllHold, ◌gives◌}
use Rattle.integers.specs.Lists.{tabulate}
use Rattle.h265.specs.ScalingFactor.ScalingList.{flat}
use Rattle.h265.specs.TransformSkip.{ts_residual}
use Rattle.scaling_blocks.specs.Blocks.{CountWritten}
use Rattle.block_tool_rules.specs.declared.Accumulate.TheVariants.{Off, AlongRows, DownColumns}
use Rattle.block_tool_rules.specs.Modification.{rotated, accumulated_row, accumulated_column, modified}
use Rattle.block_tool_rules.specs.Residual.{Written, skip_residual, bypass_residual_at, bypass_residual}

row : ℕ → ℕ → ℕ → ℕ → List ℤ → List ℤ
row a b c d rest = pos a ∷ pos b ∷ pos c ∷ pos d ∷ rest

three : ℕ → ℕ → ℕ → List ℤ
three a b c = pos a ∷ pos b ∷ pos c ∷ []

-- 1 .. 16
counted : ℕ → ℤ
counted i = pos (suc i)

block_of : (ℕ → ℤ) → List ℤ
block_of f = tabulate 16 f

-- number, row and column of a bypass of 16 equal levels at depth 8
bypassed : Bool → ℕ → ℤ → List ℤ
bypassed t n level =
    let w : Written = bypass_residual Off t n 8 false (replicate 16 level) (replicate 16 (pos 0)) in
    pos w.answer.number ∷ pos w.answer.row ∷ pos w.answer.column ∷ []

-- number, how many were limited, and the first residual of a transform skip of 16 equal levels with QP' 4
skipped : Bool → ℕ → ℕ → ℤ → List ℤ
skipped t n b level =
    let w : CountWritten = skip_residual Off t flat n (pos 4) b false (replicate 16 level) (replicate 16 (pos 0)) in
    pos w.answer.number ∷ pos w.answer.value ∷ get_or w.out 0 (pos 0) ∷ []

unfoldable pub examples : List (Case (List ℤ))
unfolding row three counted block_of bypassed skipped
examples =
    (block_of (rotated true 4 counted) gives row 16 15 14 13 (row 12 11 10 9 (row 8 7 6 5 (row 4 3 2 1 []))))
    ∷ (block_of (rotated false 4 counted) gives row 1 2 3 4 (row 5 6 7 8 (row 9 10 11 12 (row 13 14 15 16 []))))
    ∷ (block_of (accumulated_row 4 counted) gives row 1 3 6 10 (row 5 11 18 26 (row 9 19 30 42 (row 13 27 42 58 []))))
    ∷ (block_of (accumulated_column 4 counted) gives row 1 2 3 4 (row 6 8 10 12 (row 15 18 21 24 (row 28 32 36 40 []))))
    ∷ (block_of (modified AlongRows true 4 (ts_residual (pos 1)) counted) gives row 8 16 23 30 (row 6 12 17 22 (row 4 8 11 14 (row 2 4 5 6 []))))
    ∷ (block_of (bypass_residual_at DownColumns true 4 (block_of counted)) gives row 16 15 14 13 (row 28 26 24 22 (row 36 33 30 27 (row 40 36 32 28 []))))
    -- a bypass: accepted, and its refusals in their order
    ∷ (bypassed true 4 (pos 32767) gives three 0 0 0)
    ∷ (bypassed true 8 (pos 32768) gives three 25 0 0)
    ∷ (bypassed false 8 (pos 32768) gives three 6 0 0)
    ∷ (bypassed true 7 (pos 32768) gives three 1 0 0)
    ∷ (bypassed true 4 (pos 32768) gives three 9 0 0)
    ∷ (bypassed true 4 (negsuc 32768) gives three 19 0 0)
    -- a transform skip: 32 times the level, shifted by 5; all levels limited; the depth before the rotation
    ∷ (skipped true 4 8 (pos 7) gives three 0 0 7)
    ∷ (skipped false 4 8 (pos 40000) gives three 0 16 1024)
    ∷ (skipped true 8 8 (pos 7) gives three 25 0 0)
    ∷ (skipped true 8 7 (pos 7) gives three 2 0 0)
    ∷ []

unfoldable pub ExamplesHold : Type 0
ExamplesHold = AllHold examples
