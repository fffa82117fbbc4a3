-- `feed_format::room::feed_room` meets its contract: what is counted and what the rest asks are what the whole asks.
use Prim.Native.Nat.{◌-◌}
use lib.ListN.{length}
use Rattle.feed_format.specs.Format.{record_room}
use Rattle.feed_format.proofs.RoomLaws.{RoomLeft}
use Rattle.feed_format.proofs.room.feed_room.Given as goal

abbrev pub invariant-loop-at : goal.invariant-loop-at
invariant-loop-at l = RoomLeft record_room l.input l.room l.at

abbrev pub decreases-loop-at : goal.decreases-loop-at
decreases-loop-at l = length l.input - l.at
