-- `stages_wide::sizes::both` meets its contract: stage two over what stage one stored is both stages.
use mathlib.Core.Path.{◌∙◌}
use native.Mathlib.Omega.{arith}
use lib.IntN.{pos}
use lib.ListN.{length-replicate}
use Rattle.h265.specs.Matrix.{trans_matrix}
use Rattle.transform_1d.proofs.RowsLaws.{zeros-get_or, filled-all}
use Rattle.stages_wide.proofs.StageLaws.{pass_rows, short-rows}
use Rattle.stages_wide.proofs.ResultLaws.{filled_stages}
use Rattle.stages_wide.proofs.sizes.both.Goals as goal

pub returns : goal.returns
returns g c =
    let a = c.args in
    let p = c.requires in
    let q = g.S.Stage.ROWS in
    let n = g.S.Stage.POINTS in
    let one = c.pass.ensures in
    filled_stages (trans_matrix n) n a.range a.nx a.coeff.now (zeros-get_or g.row.A)
    (pass_rows q n a.range a.coeff.now p.0.columns p.3.zero 7 one) a.shift
    (filled-all n c.POINTS.ensures
    (short-rows q n a.range _ (omega (arith, c.POINTS.ensures)) (one.rows.long ∙ length-replicate g.row.A (pos 0) ∙ p.1) a.shift c.pass-2.ensures))
