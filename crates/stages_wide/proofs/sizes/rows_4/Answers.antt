-- `stages_wide::sizes::rows_4` meets its contract: a stage over the block turned over is stage two.
use native.Mathlib.Omega.{arith}
use Rattle.transform_1d.specs.MatrixOf.{matrix_of}
use lib.IntN.{pos}
use lib.ListN.{replicate}
use Rattle.tiles.proofs.TileLaws.{filled_same}
use Rattle.stages_wide.proofs.MovesLaws.{turned_rows}
use Rattle.stages_wide.proofs.ProductsLaws.{four_rows}
use Rattle.stages_wide.proofs.sizes.rows_4.Goals as goal

pub returns : goal.returns
returns c =
    let a = c.args in
    turned_rows (matrix_of a.kind 4) 4 a.range a.shift a.inter.now (filled_same {xs = replicate 16 (pos 0)} c.turn.ensures)
    (four_rows (matrix_of a.kind 4) a.range a.shift _ (omega arith) c.stage_4.ensures)
