-- `tiles::put_fours` meets its contract: of four rows, turned over, the first w are stored.
use Rattle.tiles.proofs.TileLaws.{block_turned}
use Rattle.tiles.proofs.put_fours.Goals as goal

pub returns : goal.returns
returns c =
    let r = c.requires in
    block_turned _ c.args.v.now c.args.from _ _ _ _ r.1 c.index-v-from.is c.index-v-from-2.is c.index-v-from-3.is c.index-v-from-4.is r.0.few r.0.part c.turned.ensures
    c.put_four.ensures c.put_four-2.ensures c.put_four-3.ensures c.put_four-4.ensures
