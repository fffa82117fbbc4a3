-- `scale_trace::stream::take_record` meets its contract: the feed says answer and state, and an accepted record of levels adds its lines.
use Rattle.std.proofs.Common.{◌≡◌, Err}
use borrow.Author.Rules.{rules}
use native.Mathlib.Omega.{arith}
use Rattle.feed_state.specs.Buffers.{lent}
use Rattle.feed_state.specs.Taken.{state_of}
use Rattle.scale_trace_rules.specs.Trace.{list_room}
use Rattle.scale_trace.specs.Work.{tracing}
use Rattle.scale_trace.proofs.StepLaws.{Fed, fed, traced_refused, traced_accepted}
use Rattle.scale_trace.proofs.stream.take_record.Goals as goal
use Rattle.scale_trace.proofs.stream.take_record.Goals.{After-step}

-- what the feed's own step says
fed_at : (c : After-step) → let a = c.args in
    let f = state_of a.state (lent a.levels.now a.coeff.now a.inter.now a.residual.now) in
    let l = c.step.new in
    Fed a.state c.step.result (lent l.levels l.coeff l.inter l.residual) f a.kind (tracing f a.kind a.body.now (list_room a.kind))
fed_at c =
    let a = c.args in
    fed (state_of a.state (lent a.levels.now a.coeff.now a.inter.now a.residual.now)) a.kind a.body.now (list_room a.kind) (omega arith) (search rules) c.step.ensures

pub returns : goal.returns
returns c =
    traced_accepted c.in_ok-taken.taken (rw c.in_ok-taken.was at (fed_at (goal.at.returns c).After-step)) c.size_of.ensures c.put_levels-end.ensures

pub returns-in_err-taken : goal.returns-in_err-taken
returns-in_err-taken c =
    let told : c.from_residual.result ≡ Err c.in_err-taken.field-0.0 = search rules in
    rw told (traced_refused c.in_err-taken.field-0.0 (rw c.in_err-taken.was at (fed_at (goal.at.returns-in_err-taken c).After-step)))
