-- `scale_trace_block::room::listing_room` meets its contract: what is counted and what the rest asks are what the whole asks.
use Prim.Native.Nat.{◌-◌}
use lib.ListN.{length}
use Rattle.feed_format.proofs.RoomLaws.{RoomLeft}
use Rattle.scale_trace_rules.specs.Trace.{list_room}
use Rattle.scale_trace_block.proofs.room.listing_room.Given as goal

abbrev pub invariant-loop-at : goal.invariant-loop-at
invariant-loop-at l = RoomLeft list_room l.input l.room l.at

abbrev pub decreases-loop-at : goal.decreases-loop-at
decreases-loop-at l = length l.input - l.at
