-- `stages_wide::sizes::rows` meets its contract, by its branches: values that fit 16 bits are their own limits.
use mathlib.Core.Path.{refl, ◌∙◌, subst}
use Prim.Native.Nat.{ℕ}
use lib.IntN.{pos}
use lib.ListN.{length-replicate}
use mir.Syntax.{w32}
use mir.Facts.{to_z-of_z}
use borrow.Author.Rules.{sfits_of}
use Rattle.h265.specs.Matrix.{trans_matrix}
use Rattle.integers.specs.Within.{Narrow}
use Rattle.tiles.proofs.TileLaws.{filled_same}
use Rattle.stages_wide.proofs.NarrowLaws.{narrow_stage, turned_narrow}
use Rattle.stages_wide.proofs.MovesLaws.{turned_rows}
use Rattle.stages_wide.proofs.PassSizeLaws.{stage_named}
use Rattle.stages_wide.proofs.sizes.rows.Goals as goal

pub returns-then-all_narrow : goal.returns-then-all_narrow
returns-then-all_narrow g c =
    let a = c.args in
    let m = g.S.Stage.POINTS in
    let n = subst (λ (k : ℕ). Narrow k c.args.inter.now) c.requires.1.values (c.all_narrow.ensures c.if-all_narrow.true) in
    let f = filled_same (rw c.POINTS.ensures at c.turn.ensures) in
    let h = to_z-of_z {w = w32} (sfits_of c.half.type_inv) ∙ c.half.ensures.0 in
    turned_rows (trans_matrix m) m a.range a.shift a.inter.now f
    (narrow_stage m a.range a.shift _ c.requires.0.range_least h (turned_narrow m a.inter.now n f) (stage_named c.requires.1.rows refl _ _ _ (f.long ∙ length-replicate g.row.A (pos 0) ∙ c.requires.1.values) (rw c.POINTS-then-all_narrow.ensures at c.stage.ensures)))
