-- `tiles::parts_as_rows` meets its contract: four lines at a time are joined and stored as rows.
use mathlib.Core.Path.{◌≡◌, refl, ◌∙◌}
use Prim.Native.Nat.{◌+◌}
use native.Mathlib.Omega.{arith}
use lib.ListN.{length}
use mir.Facts.{to_z-of_z}
use Rattle.tiles.proofs.TileLaws.{block_sized, rows_left, rows_room, twice_half}
use Rattle.tiles.proofs.PartsLaws.{sum_small, parts_row, block_back}
use Rattle.tiles.proofs.parts_as_rows.Goals as goal

pub joined-v-requires : goal.joined-v-requires
joined-v-requires g c =
    let r = c.requires in (
      omega (arith, r.1.most),
      (
        r.0.shift,
        λ j m a. (sum_small (c.args.k + 1) m r.1.most (c.line-in-loop-b.ensures j) (c.shifted-d.ensures j m a), sum_small 1 m r.1.most (c.line.ensures j) (c.shifted-g.ensures j m a)),
      ),
    )

pub put_rows-requires : goal.put_rows-requires
put_rows-requires g c =
    let r = c.requires in
    let o = rows_room r.1.most c.loop-b.invariant.1 (omega arith) c.min.ensures r.0.stage.room in
    rw (let e : length c.joined-v.result ≡ g.row.N = omega (arith, c.joined-v.type_inv) in e) (r.1, o.0, o.1, omega (arith, o.2, c.loop-b.invariant.2))

pub loop-b-preserved : goal.loop-b-preserved
loop-b-preserved g c =
    let i = c.loop-b.invariant in
    let r = c.requires in
    let s = r.0.stage in (
      omega (arith, i.0),
      omega (arith, i.0, s.few, r.1.most),
      c.put_rows.auto.out ∙ i.2,
      rows_left i.3 (omega arith) c.min.ensures (block_sized (let e : length c.joined-v.result ≡ g.row.N = omega (arith, c.joined-v.type_inv) in e) (block_back c.put_rows.ensures))
          (λ j m l a. parts_row c.args.k c.args.by _ c.args.s.now m (omega (arith, l, i.0, r.1.parts, s.few)) a (c.columns_in_parts-h.ensures.high j l) (c.columns_in_parts-h.ensures.low j l) (c.line.ensures j)
          (c.line-in-loop-b.ensures j) (c.zero.ensures j) (c.splat-twice.ensures j l ∙ twice_half c.ranges.half s.half) (c.shifted-g.ensures j m a) (c.shifted-d.ensures j m a) (c.joined-v.ensures j m a))
          refl,
    )

pub returns-2 : goal.returns-2
returns-2 g c =
    let i = c.loop-b.invariant in
    let r = c.requires in
    let s = r.0.stage in
    simp (to_z-of_z, c.ranges.half) at
    (rows_left {x = c.args.count} i.3 (omega arith) c.min.ensures (block_sized (let e : length c.joined-v.result ≡ g.row.N = omega (arith, c.joined-v.type_inv) in e) (block_back c.put_rows.ensures))
    (λ j m l a. parts_row c.args.k c.args.by _ c.args.s.now m (omega (arith, l, i.0, r.1.parts, s.few)) a (c.columns_in_parts-h.ensures.high j l) (c.columns_in_parts-h.ensures.low j l) (c.line.ensures j)
    (c.line-in-loop-b.ensures j) (c.zero.ensures j) (c.splat-twice.ensures j l ∙ twice_half c.ranges.half s.half) (c.shifted-g.ensures j m a) (c.shifted-d.ensures j m a) (c.joined-v.ensures j m a))
    (omega arith))
