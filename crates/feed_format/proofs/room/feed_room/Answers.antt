-- `feed_format::room::feed_room` meets its contract: what is counted and what the rest asks are what the whole asks.
use mathlib.Core.Path.{sym, ◌∙◌}
use Rattle.feed_format.specs.Format.{record_room}
use Rattle.feed_format.specs.Room.{feed_room}
use Rattle.feed_format.proofs.FormatLaws.{none_at}
use Rattle.feed_format.proofs.RoomLaws.{room_start, room_more, room_unknown, room_end}
use Rattle.feed_format.proofs.room.feed_room.Goals as goal

pub loop-at-init : goal.loop-at-init
loop-at-init c = room_start record_room _

pub returns-then-is_none : goal.returns-then-is_none
unfolding feed_room
returns-then-is_none c = c.saturating_add.ensures ∙ sym (room_unknown c.loop-at.invariant c.loop-at-test.true (none_at _ c.kind_of.ensures c.is_none.ensures c.if-is_none.true))

pub loop-at-preserved : goal.loop-at-preserved
loop-at-preserved c =
    room_more c.loop-at.invariant _ c.loop-at-test.true (none_at _ c.kind_of.ensures c.is_none.ensures c.if-is_none.false) (rw c.record_length.ensures.value at c.min-at.ensures) _ (rw c.record_room.ensures.value at c.saturating_add-room.ensures)

pub returns : goal.returns
unfolding feed_room
returns c = c.saturating_add-2.ensures ∙ sym (room_end c.loop-at.invariant c.loop-at-test.false)
