-- `list_places::put_place` meets its contract: flag and DC, and then the entries behind them.
use Rattle.list_places.proofs.PlaceLaws.{put_whole}
use Rattle.list_places.proofs.put_place.Goals as goal

pub returns : goal.returns
returns c = let a = c.args in put_whole a.table.now a.at a.list.now a.dc c.requires.0 c.requires.1 c.copy_from_slice.ensures.after
