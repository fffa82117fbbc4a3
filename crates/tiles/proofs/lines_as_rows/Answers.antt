-- `tiles::lines_as_rows` meets its contract: four lines at a time are stored as rows.
use mathlib.Core.Path.{◌≡◌, ap, refl, ◌∙◌}
use native.Mathlib.Omega.{arith}
use lib.ListN.{length}
use mir.Facts.{to_z-of_z}
use Rattle.transform_1d.proofs.RowsLaws.{filled-all, filled_zero}
use Rattle.tiles.proofs.TileLaws.{block_sized, head_values, line_row, lanes_within, rows_left, rows_room, twice_half, twice_within}
use Rattle.tiles.proofs.lines_as_rows.Goals as goal

pub loop-b-init : goal.loop-b-init
loop-b-init g c = (omega arith, omega arith, refl, filled-all _ (omega arith) filled_zero)

pub columns-x-requires : goal.columns-x-requires
columns-x-requires g c =
    let r = c.requires in
    (omega (arith, r.2), (omega (arith, c.loop-b.invariant.0, r.1.parts, r.0.few), r.0.long))

pub line-z-requires : goal.line-z-requires
line-z-requires g c =
    let r = c.requires in
    let x = c.splat-r in
    (omega (arith, r.2), (omega (arith, r.1.most), lanes_within x.result.v x.result.four x.ensures (twice_within c.ranges.half r.0.half)))

pub put_rows-requires : goal.put_rows-requires
put_rows-requires g c =
    let r = c.requires in
    let o = rows_room r.1.most c.loop-b.invariant.1 (omega arith) c.min.ensures r.0.room in
    rw (let e : length c.shifted-v.result ≡ g.row.N = omega (arith, c.shifted-v.type_inv) in e) (r.1, o.0, o.1, omega (arith, o.2, c.loop-b.invariant.2))

pub loop-b-preserved : goal.loop-b-preserved
loop-b-preserved g c =
    let i = c.loop-b.invariant in
    let r = c.requires in (
      omega (arith, i.0),
      omega (arith, i.0, r.0.few, r.1.most),
      c.put_rows.auto.out ∙ i.2,
      rows_left i.3 (omega arith) c.min.ensures (block_sized (let e : length c.shifted-v.result ≡ g.row.N = omega (arith, c.shifted-v.type_inv) in e) c.put_rows.ensures)
          (λ j m l a. ap g.T.Output.made (c.shifted-v.ensures j m a ∙ line_row _ c.args.s (head_values (omega (arith, l, i.0, r.1.parts, r.0.few)) (c.columns-x.ensures j l)) (c.line-z.ensures j) (c.splat-r.ensures j l ∙ twice_half c.ranges.half r.0.half) m a))
          refl,
    )

pub returns : goal.returns
returns g c = simp (to_z-of_z, c.ranges.half) at (filled-all c.args.count (omega arith) c.loop-b.invariant.3)

pub returns-2 : goal.returns-2
returns-2 g c =
    let r = c.requires in
    let i = c.loop-b.invariant in
    simp (to_z-of_z, c.ranges.half) at
    (rows_left {x = c.args.count} c.loop-b.invariant.3 (omega arith) c.min.ensures (block_sized (let e : length c.shifted-v.result ≡ g.row.N = omega (arith, c.shifted-v.type_inv) in e) c.put_rows.ensures)
    (λ j m l a. ap g.T.Output.made (c.shifted-v.ensures j m a ∙ line_row _ c.args.s (head_values (omega (arith, l, i.0, r.1.parts, r.0.few)) (c.columns-x.ensures j l)) (c.line-z.ensures j) (c.splat-r.ensures j l ∙ twice_half c.ranges.half r.0.half) m a))
    (omega arith))
