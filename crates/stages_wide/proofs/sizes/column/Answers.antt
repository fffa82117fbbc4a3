-- `stages_wide::sizes::column` meets its contract, by its branches: values that fit 16 bits are their own limits.
use mathlib.Core.Path.{refl, ◌∙◌}
use lib.IntN.{pos}
use lib.ListN.{length-replicate}
use Rattle.h265.specs.Matrix.{trans_matrix}
use Rattle.stages_wide.proofs.NarrowLaws.{narrow_stage, taken_narrow}
use Rattle.stages_wide.proofs.MovesLaws.{put_one_lem, moved_32}
use Rattle.stages_wide.proofs.PassSizeLaws.{stage_named}
use Rattle.stages_wide.proofs.sizes.column.Goals as goal

pub returns-then-column_narrow : goal.returns-then-column_narrow
returns-then-column_narrow g c =
    let a = c.args in
    let t = moved_32 c.take_column.ensures in
    let n = c.column_narrow.ensures c.if-column_narrow.true in
    let f = stage_named c.requires.1.rows c.requires.1.points _ _ _ (t.long ∙ length-replicate g.row.A (pos 0) ∙ c.requires.1.values) c.stage.ensures in
    put_one_lem (trans_matrix g.row.N) g.row.N a.range a.coeff.now t (narrow_stage g.row.N a.range 7 _ c.requires.0.range_least refl (taken_narrow g.row.N a.coeff.now n t) f)
    (f.long ∙ length-replicate g.row.N (pos 0)) c.put_column.ensures
