-- `lines::odd_16` meets its contract: the literal columns are the matrix's odd rows, doubled, by computation.
use mathlib.Core.Path.{refl}
use Rattle.integers.specs.Lists.{tabulate, tabulate_from}
use Rattle.h265.specs.Matrix.{folding_values, folding, folded_entry, folded_angle, trans_matrix32, trans_matrix}
use Rattle.lines.specs.Fold.{odd_column}
use Rattle.lines.proofs.FoldLaws.{dot_out, odds, ◌then◌, end}
use Rattle.lines.proofs.odd_16.Goals as goal

pub returns : goal.returns
unfolding odd_column trans_matrix trans_matrix32 folded_entry folded_angle folding folding_values tabulate tabulate_from
returns c j =
    odds 8 _ refl
    (dot_out 8 _ 0 refl (c.dot.ensures j)
    then dot_out 8 _ 1 refl (c.dot-2.ensures j)
    then dot_out 8 _ 2 refl (c.dot-3.ensures j)
    then dot_out 8 _ 3 refl (c.dot-4.ensures j)
    then dot_out 8 _ 4 refl (c.dot-5.ensures j)
    then dot_out 8 _ 5 refl (c.dot-6.ensures j)
    then dot_out 8 _ 6 refl (c.dot-7.ensures j)
    then dot_out 8 _ 7 refl (c.dot-8.ensures j)
    then end)
