-- `feed::stream::step` meets its contract: room is decided first, then the record is taken at the start of the buffer.
use Rattle.std.proofs.Common.{◌≡◌, rules, Err}
use mathlib.Core.Path.{sym, ◌∙◌}
use Prim.Native.Nat.{◌≤◌}
use native.Mathlib.Omega.{arith}
use borrow.Author.Tests.{lt-ltb, le-ltb}
use lib.ListN.{length}
use Rattle.feed_format.specs.Format.{record_room}
use Rattle.feed_rules.specs.Record.{record_effect}
use Rattle.feed_state.specs.Buffers.{Lent, lent, in_buffers}
use Rattle.feed_state.specs.Taken.{state_of, Ample}
use Rattle.feed_history.specs.Stepping.{too_short, stepping_by, stepping}
use Rattle.feed_history.proofs.StepsLaws.{enough_room}
use Rattle.feed.specs.declared.StepError.TheVariants.{Refused}
use Rattle.feed.specs.Answers.{Steps}
use Rattle.feed.proofs.StepLaws.{long_buffers, steps_none, stepped, steps_taken}
use Rattle.feed.proofs.stream.step.Goals as goal
use Rattle.feed.proofs.stream.step.Goals.{Else-out-record_room, Else-too_short, After-take_record, Start}

abbrev lent_at : Start → Lent
lent_at s = lent s.args.levels.now s.args.coeff.now s.args.inter.now s.args.residual.now

pub returns-then-out-record_room : goal.returns-then-out-record_room
unfolding stepping_by
returns-then-out-record_room c =
    rw (lt-ltb (length c.args.out.now) (record_room c.args.kind) (rw c.record_room.ensures.value at c.if-out-record_room.true))
    (steps_none c.args.state (lent_at (goal.at.returns-then-out-record_room c).Start) c.args.out.now (omega arith) (omega arith))

room : (c : Else-out-record_room) → let a = c.args in record_room a.kind ≤ length a.out.now
room c = rw c.record_room.ensures.value at c.if-out-record_room.false

pub returns-then-too_short : goal.returns-then-too_short
unfolding stepping_by too_short
returns-then-too_short c =
    rw (le-ltb (length c.args.out.now) (record_room c.args.kind) (room (goal.at.returns-then-too_short c).Else-out-record_room), sym c.too_short.ensures ∙ c.if-too_short.true)
    (steps_none c.args.state (lent_at (goal.at.returns-then-too_short c).Start) c.args.out.now (omega arith) (omega arith))

ample : (c : Else-too_short) → Ample (let a = c.args in lent a.levels.now a.coeff.now a.inter.now a.residual.now)
unfolding too_short
ample c = long_buffers (let a = c.args in lent a.levels.now a.coeff.now a.inter.now a.residual.now) (sym c.too_short.ensures ∙ c.if-too_short.false)

-- what was taken is a step
taken : (c : After-take_record) → let a = c.args in let l = c.take_record.new in let b = lent a.levels.now a.coeff.now a.inter.now a.residual.now in
    record_room a.kind ≤ length a.out.now → Ample b
    → Steps a.state (stepped c.take_record.result) (lent l.levels l.coeff l.inter l.residual) a.out.now l.out (stepping (state_of a.state b) a.kind a.body.now (length a.out.now))
taken c room ample =
    let a = c.args in
    rw (enough_room (record_effect in_buffers) record_room (state_of a.state (lent a.levels.now a.coeff.now a.inter.now a.residual.now)) a.kind a.body.now (length a.out.now) room ample)
    (steps_taken c.take_record.result c.take_record.ensures (omega (arith, room, c.take_record.auto.out)))

pub returns : goal.returns
returns c =
    let k = goal.at.returns c in
    rw c.in_ok-take_record.was at (taken k.After-take_record (room k.Else-out-record_room) (ample k.Else-too_short))

pub returns-in_err-take_record : goal.returns-in_err-take_record
returns-in_err-take_record c =
    let k = goal.at.returns-in_err-take_record c in
    let told : c.from_residual.result ≡ Err (Refused c.in_err-take_record.field-0.0) = search rules in
    rw told (rw c.in_err-take_record.was at (taken k.After-take_record (room k.Else-out-record_room) (ample k.Else-too_short)))
