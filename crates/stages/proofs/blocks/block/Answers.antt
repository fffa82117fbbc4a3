-- `stages::blocks::block` meets its contract: stage two over what stage one stored from the first rows is the residual.
use mathlib.Core.Path.{◌≡◌, refl, ◌∙◌}
use native.Mathlib.Omega.{arith}
use lib.IntN.{pos}
use lib.ListN.{length-replicate}
use mir.Syntax.{w32}
use mir.Facts.{to_z-of_z}
use borrow.Author.Rules.{sfits_of}
use Rattle.std.specs.Prelude.{map}
use Rattle.std.proofs.lemmas.List.{length-map}
use Rattle.h265.specs.Matrix.{trans_matrix}
use Rattle.h265.proofs.RangeLaws.{size_bound}
use Rattle.transform_1d.proofs.MatrixLaws.{size_abs_sum}
use Rattle.tiles.specs.Tile.{first_rows}
use Rattle.tiles.proofs.TileLaws.{filled_same, rows_whole}
use Rattle.stages.proofs.BothLaws.{stored_small, both_rows, read_rows, same_block}
use Rattle.stages.proofs.SizesLaws.{rows_unlimited}
use Rattle.stages.proofs.blocks.block.Goals as goal

pub returns : goal.returns
returns g c =
    let p = c.requires.0 in
    let q = g.S.Stage.ROWS in
    let n = g.S.Stage.POINTS in
    let t = trans_matrix n in
    let size = (g.met.S.Stage.size).size in
    let xs = first_rows q n (map g.V.Input.read c.args.coeff.now) in
    let one = filled_same c.stage.ensures in
    let whole : first_rows q n (map (λ x. x) c.stage.new.out) ≡ c.stage.new.out = rows_whole q n c.stage.new.out (one.long ∙ length-replicate g.row.A (pos 0) ∙ c.requires.2) in
    same_block t _ xs (read_rows g.V.Input.read g.V.Output.value g.met.V.Sample.reads q n c.args.nx c.args.coeff.now p.columns p.fits c.requires.4) c.args.s
    (omega (arith, size_bound n size)) (omega (arith, p.room, length-map c.args.out.now g.V.Output.value))
    (both_rows t n c.args.nx g.row.A xs one (λ x. x) c.args.s refl
    (rows_unlimited t c.args.s _ g.V.Output.made (size_abs_sum n size) (λ x h. g.met.V.Sample.unlimited c.args.s x c.requires.1 p.most h) (λ k m a b. stored_small t n c.args.nx g.row.A xs one k m b)
    c.POINTS.ensures (to_z-of_z {w = w32} (sfits_of c.half.type_inv) ∙ c.half.ensures.0) (rw whole at c.stage-2.ensures)))
