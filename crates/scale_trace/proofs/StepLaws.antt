-- Laws of one record: what the feed's own step says of it, and the lines that it adds.
--   kind_side                 a kind of levels has one of the four sizes
--   lines_of                  the lines of a kind, by its size
--   done_is                   an answer is `Ok` where its number is 0
--   Fed, fed                  the feed's step, with room for every text, says answer and state of the listing's
--   traced_refused, -accepted a record that is refused, and one that is not
--   traced_steps              what was taken at the start of a buffer is a step
use Rattle.std.specs.Prelude.{Option, Some, None, Result, Ok, Err, is_ok}
use mathlib.Core.Path.{◌≡◌, refl, sym, ap, subst, ◌∙◌}
use mathlib.Core.Bool.{Bool, true, false, cond}
use mathlib.Core.List.{List, []}
use Prim.Native.Nat.{ℕ, ◌+◌, ◌*◌, ◌≤◌, ◌<◌}
use native.Mathlib.Omega.{arith}
use borrow.Author.Tests.{eq-eqb, ne_eqb, le-ltb}
use lib.Dec.{T, eqb}
use lib.ListN.{length}
use Rattle.h265.specs.Range.{is_size}
use Rattle.h265.specs.ScalingFactor.{ScalingList}
use Rattle.refusal.specs.Outcome.{Outcome}
use Rattle.refusal.proofs.RefusalLaws.{number_least}
use Rattle.text.specs.Text.{WroteUpTo}
use Rattle.text.proofs.WroteLaws.{wrote_none, counts}
use Rattle.feed_format.specs.declared.Parameters.{Parameters}
use Rattle.feed_format.specs.declared.Kind.{Kind}
use Rattle.feed_format.specs.declared.Kind.TheVariants.{Parameters as ParametersKind, List as ListKind, NoList, Levels, Edit, Reading}
use Rattle.feed_state.specs.declared.State.{State}
use Rattle.feed_format.specs.Format.{kind_of, record_room}
use Rattle.feed_format.proofs.FormatLaws.{Sized, kind_size, room_most}
use Rattle.feed_rules.specs.Record.{FeedState, Effect, record_effect}
use Rattle.feed_state.specs.Buffers.{Lent, Buffered, in_buffers}
use Rattle.feed_state.specs.Taken.{state_of, capped, state_after, end_after, answer_of}
use Rattle.feed.specs.declared.StepError.{StepError}
use Rattle.feed.specs.declared.StepError.TheVariants.{Refused, NoRoom}
use Rattle.feed_state.specs.declared.Taken.{Taken}
use Rattle.feed.specs.Answers.{step_answer, Steps}
use Rattle.feed_history.specs.Stepping.{IfRoom, Stepping, too_short, stepping_by, stepping}
use Rattle.feed_history.specs.Stepping.IfRoom.{too_little, enough}
use Rattle.scale_trace_rules.specs.Block.{lines_from, block_lines}
use Rattle.scale_trace_rules.specs.Trace.{levels_lines, record_lines, trace_effect, list_room, size_of}
use Rattle.scale_trace_block.proofs.RoomLaws.{room_is}
use Rattle.scale_trace.specs.Work.{tracing, TracesAt}

-- ---- sizes of kinds
pub kind_side : {n : ℕ} (k : ℕ) → n ≡ size_of (kind_of k) → 0 < n → T (is_size n)
kind_side k e h = rw e (by (kind_of k) (kind_size k) (rw e at h))
  where
    by : (kind : Option Kind) → Sized kind → 0 < size_of kind → T (is_size (size_of kind))
    by None t h = absurd (omega arith)
    by (Some ParametersKind) t h = absurd (omega arith)
    by (Some ListKind) t h = absurd (omega arith)
    by (Some NoList) t h = absurd (omega arith)
    by (Some (Levels n)) t h = t
    by (Some Edit) t h = absurd (omega arith)
    by (Some Reading) t h = absurd (omega arith)

lines_none : (g : Option Parameters) (list : ScalingList) → levels_lines g list 0 ≡ []
unfolding block_lines lines_from
lines_none None list = refl
lines_none (Some p) list = refl

lines_of : {H : Type 0} (kind : Option Kind) (s : FeedState H) → record_lines kind s ≡ levels_lines s.given s.list (size_of kind)
lines_of None s = sym (lines_none s.given s.list)
lines_of (Some ParametersKind) s = sym (lines_none s.given s.list)
lines_of (Some ListKind) s = sym (lines_none s.given s.list)
lines_of (Some NoList) s = sym (lines_none s.given s.list)
lines_of (Some (Levels n)) s = refl
lines_of (Some Edit) s = sym (lines_none s.given s.list)
lines_of (Some Reading) s = sym (lines_none s.given s.list)

-- ---- answers
abbrev pub number_in : IfRoom (Outcome (Unit {0})) → ℕ
number_in too_little = 0
number_in (enough q) = q.number

pub done_is : (a : Result Taken StepError) (o : Outcome (Unit {0})) → step_answer a ≡ enough o → is_ok a ≡ eqb o.number 0
done_is (Ok t) o e = sym (eq-eqb o.number 0 (sym (ap number_in e)))
done_is (Err (Refused why)) o e = sym (ne_eqb o.number 0 (λ z. omega (arith, number_least why, ap number_in e)))
done_is (Err NoRoom) o e = let z : ◌≡◌ {A = ℕ} 0 1 = cc in absurd (omega arith)

undone : (a : Result Taken StepError) → step_answer a ≡ too_little → is_ok a ≡ false
undone (Ok t) e = let z : ◌≡◌ {A = ℕ} 0 1 = cc in absurd (omega arith)
undone (Err (Refused why)) e = refl
undone (Err NoRoom) e = refl

-- ---- what the feed's step says
abbrev roomy : (FeedState Buffered → ℕ → List ℕ → Outcome (Effect Buffered)) → FeedState Buffered → ℕ → List ℕ → Bool → Stepping
roomy effect f k body short =
    cond short (record { answer = too_little; state = f; text = [] })
    (record { answer = enough (answer_of (effect f k body)); state = (effect f k body).value.state; text = (effect f k body).value.text })

roomy_is : (effect : FeedState Buffered → ℕ → List ℕ → Outcome (Effect Buffered)) (asks : ℕ → ℕ) (f : FeedState Buffered) (k : ℕ) (body : List ℕ) (room : ℕ) → asks k ≤ room
    → stepping_by effect asks f k body room ≡ roomy effect f k body (too_short f.block.lent_are)
unfolding stepping_by
roomy_is effect asks f k body room h = rw (le-ltb room (asks k) h) refl

-- the listing's answer and state are the feed's
pub record Fed (s : State) (r : Result Taken StepError) (w : Lent) (f : FeedState Buffered) (k : ℕ) (t : Stepping) : Type 0 where
  pub answered : step_answer r ≡ t.answer
  pub state : state_of (state_after s r) w ≡ capped t.state
  pub text : t.text ≡ cond (is_ok r) (record_lines (kind_of k) f) []

fed_by : {s : State} {r : Result Taken StepError} {w : Lent} {l m : List ℕ} (f : FeedState Buffered) (k : ℕ) (body : List ℕ) (short : Bool)
    → Steps s r w l m (roomy (record_effect in_buffers) f k body short) → Fed s r w f k (roomy (trace_effect in_buffers) f k body short)
unfolding trace_effect
fed_by {r = r} f k body true h = record { answered = h.answered; state = h.state; text = rw (undone r h.answered) refl }
fed_by {r = r} f k body false h = record { answered = h.answered; state = h.state; text = rw (done_is r _ h.answered) refl }

pub fed : {s : State} {r : Result Taken StepError} {w : Lent} {l m : List ℕ} (f : FeedState Buffered) (k : ℕ) (body : List ℕ) (room : ℕ) → list_room k ≤ room → length l ≡ 12320
    → Steps s r w l m (stepping f k body (length l)) → Fed s r w f k (tracing f k body room)
fed {l = l} f k body room h e t =
    rw (roomy_is (trace_effect in_buffers) list_room f k body room h)
    (fed_by f k body (too_short f.block.lent_are) (rw (roomy_is (record_effect in_buffers) record_room f k body (length l) (omega (arith, room_most k))) at t))

-- ---- the lines of a record
pub traced_refused : {s : State} {w : Lent} {f : FeedState Buffered} {k : ℕ} {t : Stepping} {l : List ℕ} {at room : ℕ} (error : StepError) → Fed s (Err error) w f k t
    → TracesAt s (Err error) w l at l t room
traced_refused {l = l} {at = at} error h = record { answered = h.answered; state = h.state; text = rw h.text (record { wrote = wrote_none l at; bound = omega arith }) }

pub traced_accepted : {s : State} {w : Lent} {f : FeedState Buffered} {k : ℕ} {t : Stepping} {l m : List ℕ} {at end n : ℕ} (x : Taken) → Fed s (Ok x) w f k t
    → n ≡ size_of (kind_of k) → WroteUpTo l at (levels_lines f.given f.list n) m end (at + 20 * (n * n))
    → TracesAt s (Ok (record { state = x.state; end = end })) w l at m t (list_room k)
traced_accepted {f = f} {k = k} {at = at} x h en v =
    let u = rw en at v in
    record {
      answered = h.answered;
      state = h.state;
      text = rw (h.text, lines_of (kind_of k) f) (record { wrote = u.wrote; bound = omega (arith, u.bound, room_is k) });
    }

pub traced_steps : {s : State} {r : Result Taken StepError} {w : Lent} {l m : List ℕ} (f : FeedState Buffered) (k : ℕ) (body : List ℕ) (room : ℕ) → list_room k ≤ room → list_room k ≤ length m
    → TracesAt s r w l 0 m (tracing f k body (list_room k)) (list_room k) → Steps s r w l m (tracing f k body room)
traced_steps {s} {r} {w} {l} {m} f k body room h long t =
    let same : tracing f k body (list_room k) ≡ tracing f k body room =
    roomy_is (trace_effect in_buffers) list_room f k body (list_room k) (omega arith) ∙ sym (roomy_is (trace_effect in_buffers) list_room f k body room h) in
    let u = subst (λ (q : Stepping). TracesAt s r w l 0 m q (list_room k)) same t in
    record { answered = u.answered; state = u.state; wrote = u.text.wrote; counts = counts (end_after 0 r) m (omega (arith, u.text.bound)) }
