-- `lines::line_dst` meets its contract: the literal columns are the matrix's, doubled, by computation.
use mathlib.Core.Path.{refl}
use Rattle.integers.specs.Lists.{tabulate, tabulate_from}
use Rattle.h265.specs.Matrix.{dst_entries, dst_matrix}
use Rattle.lines.proofs.FoldLaws.{◌then◌, end}
use Rattle.lines.proofs.FourLaws.{double_column, line_out, outs}
use Rattle.lines.proofs.line_dst.Goals as goal

pub returns : goal.returns
unfolding double_column dst_matrix dst_entries tabulate tabulate_from
returns c j =
    outs dst_matrix 4 refl
    (line_out dst_matrix 4 0 refl (c.four.ensures j)
    then line_out dst_matrix 4 1 refl (c.four-2.ensures j)
    then line_out dst_matrix 4 2 refl (c.four-3.ensures j)
    then line_out dst_matrix 4 3 refl (c.four-4.ensures j)
    then end)
