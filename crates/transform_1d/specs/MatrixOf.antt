-- The matrix of a kind of transform. docs/RULES.md, "Inverse transforms".
--   matrix_of kind n    the n-point DCT's matrix, or the DST's, which has 4 points only
--   MatrixExamples     a row of each, as an example: proved as `matrix_examples` in proofs/KindLaws
use Rattle.std.specs.Prelude.{◌≡◌, [], ◌∷◌, ℕ, ℤ, pos, negsuc}
use Rattle.integers.specs.Lists.{tabulate}
use Rattle.h265.specs.Matrix.{trans_matrix, dst_matrix}
use Rattle.transform_1d.specs.declared.Kind.{Kind}
use Rattle.transform_1d.specs.declared.Kind.TheVariants.{Dct, Dst}

unfoldable pub matrix_of : Kind → ℕ → ℕ → ℕ → ℤ
matrix_of Dct n k m = trans_matrix n k m
matrix_of Dst n k m = dst_matrix k m

-- row 1 of 4 points: 83 36 -36 -83 of the DCT, 74 74 0 -74 of the DST
abbrev pub MatrixExamples : Type 0
MatrixExamples =
    (tabulate 4 (matrix_of Dct 4 1) ≡ pos 83 ∷ pos 36 ∷ negsuc 35 ∷ negsuc 82 ∷ [])
    × (tabulate 4 (matrix_of Dst 4 1) ≡ pos 74 ∷ pos 74 ∷ pos 0 ∷ negsuc 73 ∷ [])
