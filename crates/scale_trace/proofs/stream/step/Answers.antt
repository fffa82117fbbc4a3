-- `scale_trace::stream::step` meets its contract: room is decided first, then the record is taken at the start of the buffer.
use Prim.Native.Nat.{◌≤◌}
use native.Mathlib.Omega.{arith}
use borrow.Author.Tests.{lt-ltb}
use lib.ListN.{length}
use Rattle.feed_state.specs.Buffers.{Lent, lent}
use Rattle.feed_state.specs.Taken.{state_of}
use Rattle.feed_history.specs.Stepping.{stepping_by}
use Rattle.feed.proofs.StepLaws.{steps_none}
use Rattle.scale_trace_rules.specs.Trace.{list_room}
use Rattle.scale_trace.proofs.StepLaws.{traced_steps}
use Rattle.scale_trace.proofs.stream.step.Goals as goal
use Rattle.scale_trace.proofs.stream.step.Goals.{Else-out-list_room, Start}

abbrev lent_at : Start → Lent
lent_at s = lent s.args.levels.now s.args.coeff.now s.args.inter.now s.args.residual.now

blocks_fit : (c : Start) → c.args.state.blocks ≤ 18446744073709551615
blocks_fit c = omega arith

offset_fits : (c : Start) → c.args.state.offset ≤ 18446744073709551615
offset_fits c = omega arith

pub returns-then-out-list_room : goal.returns-then-out-list_room
unfolding stepping_by
returns-then-out-list_room c =
    rw (lt-ltb (length c.args.out.now) (list_room c.args.kind) (rw c.list_room.ensures at c.if-out-list_room.true))
    (steps_none c.args.state (lent_at (goal.at.returns-then-out-list_room c).Start) c.args.out.now (blocks_fit (goal.at.returns-then-out-list_room c).Start) (offset_fits (goal.at.returns-then-out-list_room c).Start))

room : (c : Else-out-list_room) → let a = c.args in list_room a.kind ≤ length a.out.now
room c = rw c.list_room.ensures at c.if-out-list_room.false

pub returns : goal.returns
returns c =
    traced_steps (state_of c.args.state (lent_at (goal.at.returns c).Start)) c.args.kind c.args.body.now (length c.args.out.now) (room (goal.at.returns c).Else-out-list_room) (omega (arith, room (goal.at.returns c).Else-out-list_room, c.take_record.auto.out)) c.take_record.ensures
