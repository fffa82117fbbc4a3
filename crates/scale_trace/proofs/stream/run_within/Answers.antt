-- `scale_trace::stream::run_within` meets its contract: what is left to write in the state reached is what is left of the whole listing, and that is the
-- history's.
use mathlib.Core.Path.{refl, subst, ◌∙◌}
use mathlib.Core.List.{List}
use Prim.Native.Nat.{ℕ, ◌≤◌}
use native.Mathlib.Omega.{arith}
use lib.ListN.{length}
use Rattle.text.specs.Text.{Wrote}
use Rattle.text.proofs.WroteLaws.{left_last, left_done, counts}
use Rattle.feed_state.specs.Buffers.{Lent, lent}
use Rattle.feed_state.specs.Taken.{state_after, end_after}
use Rattle.feed_history.proofs.WalkLaws.{turn_room, walk_text, going_start, going_room, Turn, turn_of, going_more, going_done}
use Rattle.scale_trace_rules.specs.Trace.{trace_text, listing_room}
use Rattle.scale_trace.proofs.RunLaws.{listing_walk, Answered, traces_full, listing_refused, listing_passed, listing_follows}
use Rattle.feed.proofs.LocalLaws.{Full, full, full_ample}
use Rattle.scale_trace.proofs.stream.run_within.Goals as goal
use Rattle.scale_trace.proofs.stream.run_within.Goals.{After-take_record, Start}

-- the listing in buffers is the history's
text_told : (v : Lent) (input l m : List ℕ) (end : ℕ) → Full v → Wrote l 0 (walk_text listing_walk v input) m end → Wrote l 0 (trace_text input) m end
text_told v input l m end f w = subst (λ (t : List ℕ). Wrote l 0 t m end) (listing_follows v input (full_ample v f)) w

pub loop-state-init : goal.loop-state-init
unfolding listing_room
loop-state-init c =
    (going_start listing_walk _ _ _ _ (c.start-state.ensures _) c.requires (full_ample _ (full _ refl refl refl refl)), full _ refl refl refl refl, full _ refl refl refl refl)

pub take_record-requires : goal.take_record-requires
take_record-requires c =
    let l = c.loop-state in
    let g = l.invariant.0 in
    rw c.record_at-kind.ensures.kind (omega (arith, going_room g c.loop-state-test.true, g.left.long))

abbrev lent-after : After-take_record → Lent
lent-after c = lent c.take_record.new.levels c.take_record.new.coeff c.take_record.new.inter c.take_record.new.residual

full_after : (c : After-take_record) → Full (lent-after c)
full_after c =
    let f = c.loop-state.invariant.1 in
    let k = c.take_record.auto in
    record { levels = k.levels ∙ f.levels; coeff = k.coeff ∙ f.coeff; inter = k.inter ∙ f.inter; res = k.residual ∙ f.res }

-- what the record at the loop's offset did
turned : (c : After-take_record)
    → let l = c.loop-state in let r = c.take_record.result in
    Turn listing_walk (Answered r) c.args.input.now l.state (lent l.levels l.coeff l.inter l.residual) (state_after l.state r) (lent-after c) l.out l.end c.take_record.new.out (end_after l.end r)
turned c =
    let l = c.loop-state in
    let k = traces_full _ _ _ (full_ample _ l.invariant.1) c.take_record.ensures in
    let fits : length c.args.input.now ≤ 18446744073709551615 = omega arith in
    turn_of listing_walk _ _ l.state _ _ _ fits c.loop-state-test.true c.record_at-kind.ensures.kind c.record_at-kind.ensures.body (record { is = k.answered }) k.state k.text (full_ample _ (full_after c))

pub put_refusal-requires : goal.put_refusal-requires
put_refusal-requires c = let k = (goal.at.put_refusal-requires c).After-take_record in rw c.in-Err.is at (turn_room k.loop-state.invariant.0 (turned k) k.take_record.auto.out)

pub returns-in-Err : goal.returns-in-Err
returns-in-Err c =
    let l = c.loop-state in
    let f = c.put_refusal in
    let k = (goal.at.returns-in-Err c).After-take_record in
    let turn = rw c.in-Err.is at (turned k) in
    let room = rw c.in-Err.is at (turn_room k.loop-state.invariant.0 (turned k) k.take_record.auto.out) in (
      text_told _ _ _ _ _ l.invariant.2 (left_last (listing_refused l.invariant.0 turn _ refl) f.ensures.wrote),
      counts _ _ (omega (arith, f.ensures.bound, f.auto.out, room)),
    )

pub loop-state-smaller : goal.loop-state-smaller
loop-state-smaller c =
    let turn = rw c.in-Ok.is at (turned (goal.at.loop-state-smaller c).After-take_record) in
    omega (arith, turn.inside, (listing_passed c.loop-state.invariant.0 turn _ refl).next)

pub loop-state-preserved : goal.loop-state-preserved
loop-state-preserved c =
    let l = c.loop-state in
    let k = (goal.at.loop-state-preserved c).After-take_record in
    let turn = rw c.in-Ok.is at (turned k) in
    (going_more l.invariant.0 turn (listing_passed l.invariant.0 turn _ refl), full_after k, l.invariant.2)

pub returns : goal.returns
returns c =
    let l = c.loop-state in
    let g = l.invariant.0 in
    (text_told _ _ _ _ _ l.invariant.2 (left_done (going_done g c.loop-state-test.false)), counts _ _ (omega (arith, g.left.long, g.room)))
