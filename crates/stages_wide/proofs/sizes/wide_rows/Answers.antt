-- `stages_wide::sizes::wide_rows` meets its contract: a stage over the block turned over is stage two.
use mathlib.Core.Path.{refl}
use native.Mathlib.Omega.{arith}
use Rattle.h265.specs.Matrix.{trans_matrix}
use Rattle.tiles.proofs.TileLaws.{filled_same}
use Rattle.stages_wide.proofs.StageLaws.{pass_rows}
use Rattle.stages_wide.proofs.MovesLaws.{turned_rows}
use Rattle.stages_wide.proofs.PassSizeLaws.{pass_named}
use Rattle.stages_wide.proofs.sizes.wide_rows.Goals as goal

pub returns : goal.returns
returns g c =
    let a = c.args in
    let n = g.S.Stage.POINTS in
    turned_rows (trans_matrix n) n a.range a.shift a.inter.now (filled_same (rw c.POINTS.ensures at c.turn.ensures))
    (pass_rows n n a.range _ (omega arith) (λ k i u v w. absurd (let x : ⊥ = omega arith in x)) a.shift (pass_named c.requires.1.rows refl (rw c.POINTS-2.ensures at c.pass.ensures)))
