-- The choice of matrix by kind, on its examples.
use mathlib.Core.Path.{refl}
use Rattle.integers.specs.Lists.{tabulate_from, tabulate}
use Rattle.h265.specs.Matrix.{folding_values, folding, folded_entry, folded_angle, trans_matrix32, trans_matrix, dst_entries, dst_matrix}
use Rattle.transform_1d.specs.MatrixOf.{matrix_of, MatrixExamples}

pub matrix_examples : MatrixExamples
unfolding matrix_of tabulate tabulate_from trans_matrix trans_matrix32 folded_entry folded_angle folding folding_values dst_matrix dst_entries
matrix_examples = (refl, refl)
