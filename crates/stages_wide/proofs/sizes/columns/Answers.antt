-- `stages_wide::sizes::columns` meets its contract: the rows of stage one, limited and put as columns, are the intermediate.
use mathlib.Core.Path.{refl}
use native.Mathlib.Omega.{arith}
use Rattle.h265.specs.Matrix.{trans_matrix}
use Rattle.stages_wide.proofs.StageLaws.{pass_rows}
use Rattle.stages_wide.proofs.MovesLaws.{put-rows}
use Rattle.stages_wide.proofs.PassSizeLaws.{pass_named}
use Rattle.stages_wide.proofs.sizes.columns.Goals as goal

pub returns : goal.returns
returns g c =
    let a = c.args in
    let n = g.S.Stage.POINTS in
    put-rows (trans_matrix n) n a.range a.coeff.now
    (pass_rows n n a.range a.coeff.now (omega arith) (λ k i u v w. absurd (let x : ⊥ = omega arith in x)) 7 (pass_named c.requires.1.rows refl (rw c.POINTS.ensures at c.pass.ensures))) (rw c.POINTS-2.ensures at c.put_columns.ensures)
