-- `stages::blocks::block_4` meets its contract: stage two over the rows of the intermediate is the residual.
use mathlib.Core.Path.{◌≡◌, refl, sym, ap, ◌∙◌}
use mathlib.Core.List.{[]}
use Prim.Native.Nat.{ℕ, ◌-◌, ◌≤◌, ◌<◌}
use native.Mathlib.Nat.{zero-add}
use native.Mathlib.Omega.{arith}
use lib.IntN.{ℤ, pos, ◌*ℤ◌}
use lib.ListN.{get_or}
use mir.Syntax.{w32}
use mir.Facts.{to_z-of_z}
use borrow.Author.Rules.{sfits_of}
use Rattle.std.specs.Prelude.{map}
use Rattle.std.proofs.lemmas.List.{length-map}
use Rattle.integers.specs.Shift.{pow2}
use Rattle.integers.proofs.BoundLaws.{within_le}
use Rattle.h265.specs.Range.{clip_coeff}
use Rattle.coefficients.proofs.RowsLaws.{rows_used_all}
use Rattle.transform_1d.specs.MatrixOf.{matrix_of}
use Rattle.transform_1d.proofs.RowsLaws.{filled_zero}
use Rattle.vectors.specs.Lanes.{column}
use Rattle.tiles.specs.Tile.{first_rows, line_by}
use Rattle.tiles.proofs.TileLaws.{head_values, line_row, twice_half, filled_block}
use Rattle.stages.proofs.BothLaws.{stored_small, both_rows, read_rows, same_block}
use Rattle.stages.proofs.PlainLaws.{kind_abs_sum}
use Rattle.stages.proofs.SizesLaws.{rows_unlimited}
use Rattle.stages.proofs.FourLaws.{line_none, turned, turned_filled, turned_values}
use Rattle.stages.proofs.blocks.block_4.Goals as goal

pub returns : goal.returns
returns g c =
    let p = c.requires.0 in
    let t = matrix_of c.args.kind 4 in
    let s = c.args.s in
    let h = pow2 (s - 1) in
    let xs = first_rows 4 4 (map g.V.Input.read c.args.coeff.now) in
    let ys = λ (j : ℕ). column (λ q. q.v) j c.rows_4-y.result in
    let d = turned ys in
    let z = λ (j : ℕ) (m : ℕ). get_or (column (λ q. q.v) j c.shifted-z.result) m (pos 0) in
    let one : (j m : ℕ) → j < 4 → m < 4 → j < c.args.nx → z j m ≡ line_by t 4 (pos 64) 7 xs j m =
    λ j m a b l. c.shifted-z.ensures j m b
    ∙ line_row (pos 64) 7 (record { at = λ k h. (c.columns_4-x.ensures j k a h).0 l ∙ (head_values a (rw (zero-add j) at (c.columns-a.ensures j a))).at k h }) (c.line_of.ensures j) (c.splat.ensures j a) m b in
    let none : (j m : ℕ) → j < 4 → m < 4 → c.args.nx ≤ j → z j m ≡ line_by t 4 (pos 64) 7 [] j m =
    λ j m a b l. c.shifted-z.ensures j m b ∙ line_row (pos 64) 7 (record { at = λ k h. (c.columns_4-x.ensures j k a h).1 l }) (c.line_of.ensures j) (c.splat.ensures j a) m b in
    let f = turned_filled ys p.columns
    (λ j m a b. let e = c.rows_4-y.ensures j m a b in (λ l. e ∙ ap (clip_coeff 15) (one j m a b l), λ l. e ∙ ap (clip_coeff 15) (none j m a b l) ∙ line_none t j m)) in
    let half : c.half.result ≡ h = c.half.ensures.0 in
    let two : (j m : ℕ) → j < 4 → m < 4 → get_or (column (λ q. q.v) j c.shifted-v.result) m (pos 0) ≡ line_by t 4 h s d j m =
    λ j m a b. c.shifted-v.ensures j m b
    ∙ line_row h s (turned_values ys j a) (c.line_of-2.ensures j)
    (c.splat-2.ensures j a ∙ twice_half (sfits_of c.half.type_inv) (within_le (omega arith) c.half.ensures.1) ∙ ap (λ (x : ℤ). pos 2 *ℤ x) (to_z-of_z {w = w32} (sfits_of c.half.type_inv) ∙ half)) m b in
    same_block t _ xs (read_rows g.V.Input.read g.V.Output.value g.met.V.Sample.reads 4 4 c.args.nx c.args.coeff.now p.columns p.fits rows_used_all) s
    (omega arith) (omega (arith, p.room, length-map c.args.out.now g.V.Output.value))
    (both_rows t 4 c.args.nx 16 xs f (λ x. x) s refl
    (rows_unlimited t s d g.V.Output.made (kind_abs_sum c.args.kind) (λ x w. g.met.V.Sample.unlimited s x c.requires.1 p.most w) (λ k m a b. stored_small t 4 c.args.nx 16 xs f k m b)
    refl refl (filled_block {b = 0} filled_zero c.put_block.ensures (λ j m a b. ap g.V.Output.made (two j m a b ∙ ap (λ (i : ℕ). line_by t 4 h s d i m) (sym (zero-add j)))))))
