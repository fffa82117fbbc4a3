-- `tiles::put_eight` meets its contract: of four rows of eight outputs, turned over, the first w are stored.
use native.Mathlib.Omega.{arith}
use Rattle.tiles.proofs.TileLaws.{block_four, block_cong, by_row, eight_paired}
use Rattle.tiles.proofs.put_eight.Goals as goal

pub put_row-requires-3 : goal.put_row-requires-3
put_row-requires-3 c = λ l. omega (arith, c.put_row-2.auto.out, c.put_row.auto.out, c.requires.0.room 2 l)

pub put_row-requires-4 : goal.put_row-requires-4
put_row-requires-4 c = λ l. omega (arith, c.put_row-3.auto.out, c.put_row-2.auto.out, c.put_row.auto.out, c.requires.0.room 3 l)

pub returns : goal.returns
returns c =
    let t = c.eight_turned.ensures in
    let r = c.requires.0 in
    block_cong (λ j m a h. eight_paired _ c.args.p.now c.args.from _ _ _ _ c.requires.1 c.index-p-from.is c.index-p-from-2.is c.index-p-from-3.is c.index-p-from-4.is j m (omega (arith, a, r.few)) h)
    (block_four r.few r.part (by_row t.first c.put_row.ensures) (by_row t.second c.put_row-2.ensures) (by_row t.third c.put_row-3.ensures) (by_row t.fourth c.put_row-4.ensures))
