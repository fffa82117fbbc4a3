-- `stages_wide::moves::put_columns` meets its contract: the columns passed are stored.
use native.Mathlib.Omega.{arith}
use Rattle.stages_wide.proofs.ColumnLaws.{filled-column, filled_columns_all}
use Rattle.coefficients.proofs.RowsLaws.{row_inside}
use Rattle.stages_wide.proofs.MovesLaws.{put_row_lem}
use Rattle.stages_wide.proofs.moves.put_columns.Goals as goal

pub loop-c-preserved : goal.loop-c-preserved
loop-c-preserved c = filled-column (omega arith) c.loop-c.invariant (put_row_lem c.args.range c.args.g.now c.loop-c.c (omega arith) (omega (arith, row_inside c.args.n c.loop-c.c c.args.n (omega arith) (omega arith), c.requires.2)) c.put_column.ensures)

pub returns : goal.returns
returns c = filled_columns_all _ (omega arith) c.loop-c.invariant
