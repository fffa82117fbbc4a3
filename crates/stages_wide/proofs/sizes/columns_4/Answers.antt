-- `stages_wide::sizes::columns_4` meets its contract: the rows of stage one, limited and put as columns, are the intermediate.
use native.Mathlib.Omega.{arith}
use Rattle.transform_1d.specs.MatrixOf.{matrix_of}
use Rattle.stages_wide.proofs.MovesLaws.{put-rows}
use Rattle.stages_wide.proofs.ProductsLaws.{four_rows}
use Rattle.stages_wide.proofs.sizes.columns_4.Goals as goal

pub returns : goal.returns
returns c =
    let a = c.args in
    put-rows (matrix_of a.kind 4) 4 a.range a.coeff.now (four_rows (matrix_of a.kind 4) a.range 7 a.coeff.now (omega arith) c.stage_4.ensures) c.put_columns.ensures
