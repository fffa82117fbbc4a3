-- `stages_wide::sizes::wide_column` meets its contract: a stage over the column alone, limited and put in its place.
use mathlib.Core.Path.{◌∙◌}
use native.Mathlib.Omega.{arith}
use lib.IntN.{pos}
use lib.ListN.{length-replicate}
use Rattle.h265.specs.Matrix.{trans_matrix}
use Rattle.stages_wide.proofs.StageLaws.{pass_rows}
use Rattle.stages_wide.proofs.MovesLaws.{put_one_lem, moved_32}
use Rattle.stages_wide.proofs.PassSizeLaws.{pass_named}
use Rattle.stages_wide.proofs.sizes.wide_column.Goals as goal

pub returns : goal.returns
returns g c =
    let a = c.args in
    put_one_lem (trans_matrix g.row.N) g.row.N a.range a.coeff.now (moved_32 c.take_column.ensures)
    (pass_rows g.row.N g.row.N a.range _ (omega (arith, c.requires.2)) (λ k i u v w. absurd (let x : ⊥ = omega arith in x)) 7 (pass_named c.requires.1.rows c.requires.1.points c.pass.ensures)) (c.pass.ensures.rows.long ∙ length-replicate g.row.N (pos 0)) c.put_column.ensures
