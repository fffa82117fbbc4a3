-- `stages_wide::products::both_4` meets its contract: stage two over what stage one stored is both stages.
use native.Mathlib.Omega.{arith}
use Rattle.transform_1d.specs.MatrixOf.{matrix_of}
use Rattle.transform_1d.proofs.RowsLaws.{zeros-get_or}
use Rattle.stages_wide.proofs.ResultLaws.{filled_stages}
use Rattle.stages_wide.proofs.ProductsLaws.{four_rows}
use Rattle.stages_wide.proofs.products.both_4.Goals as goal

pub returns : goal.returns
returns c =
    let k = c.args in
    let a = c.requires in
    filled_stages (matrix_of k.kind 4) 4 k.range k.nx k.coeff.now (zeros-get_or 16)
    (four_rows (matrix_of k.kind 4) k.range 7 k.coeff.now a.columns c.stage_4.ensures) k.shift
    (four_rows (matrix_of k.kind 4) k.range k.shift _ (omega arith) c.stage_4-2.ensures)
