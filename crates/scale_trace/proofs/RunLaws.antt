-- The listing as a walk over a feed's records.
--   listing_walk                       what a record adds to the listing, nothing behind the last one, and the bytes that its lines may take
--   Answered                          the answer to a record is that of its effect
--   traces_full                       what was made of a record over buffers of 1,024 elements is its effect
--   listing_refused, listing_passed   after a record, by its answer
--   listing_follows                   the listing with the open block in buffers is that with its history
use Rattle.std.specs.Prelude.{Option, Some, None, Result, Ok, Err, is_ok}
use mathlib.Core.Path.{◌≡◌, refl, sym, ap, ◌∙◌, subst}
use mathlib.Core.Bool.{cond}
use mathlib.Core.List.{List, []}
use Prim.Native.Nat.{ℕ, ◌+◌}
use native.Mathlib.Omega.{arith}
use borrow.Author.Tests.{eqb-true}
use lib.Dec.{eqb}
use lib.ListN.{length}
use Rattle.h265.specs.ScalingFactor.{ScalingList}
use Rattle.refusal.specs.Outcome.{Outcome}
use Rattle.text.proofs.WroteLaws.{Left}
use Rattle.feed_lines.specs.Lines.{refused_text}
use Rattle.feed_format.specs.declared.Parameters.{Parameters}
use Rattle.feed_format.specs.declared.Kind.{Kind}
use Rattle.feed_format.specs.declared.Kind.TheVariants.{Parameters as ParametersKind, List as ListKind, NoList, Levels, Edit, Reading}
use Rattle.feed_state.specs.declared.State.{State}
use Rattle.feed_format.specs.Format.{kind_of}
use Rattle.feed_rules.specs.Record.{FeedState, Effect, record_effect}
use Rattle.feed_state.specs.Buffers.{Lent, Buffered, in_buffers}
use Rattle.feed_state.specs.Taken.{answer_of, Ample}
use Rattle.feed_rules.proofs.EffectLaws.{Moved, effect_moved}
use Rattle.feed.specs.declared.StepError.{StepError}
use Rattle.feed.specs.declared.StepError.TheVariants.{Refused, NoRoom}
use Rattle.feed_state.specs.declared.Taken.{Taken}
use Rattle.scale_trace_block.proofs.RoomLaws.{room_none}
use Rattle.feed_rules.specs.Feed.{History, in_history}
use Rattle.feed.specs.Answers.{step_answer}
use Rattle.feed_history.specs.Stepping.{Stepping}
use Rattle.feed_history.specs.Stepping.IfRoom.{enough}
use Rattle.feed_history.proofs.FollowLaws.{Follows, Same, record_follows, walks_agree, follows_start}
use Rattle.feed_history.proofs.StepsLaws.{enough_room}
use Rattle.feed_history.proofs.WalkLaws.{Walk, walk_text, Going, Turn, Passed, passed, going_refused}
use Rattle.scale_trace_rules.specs.Trace.{levels_lines, record_lines, trace_effect, list_room, trace_text}
use Rattle.scale_trace.specs.Work.{tracing, refusal_of, TracesAt}
use Rattle.scale_trace.proofs.StepLaws.{number_in, done_is}

refusal_is : (error : StepError) (o : Outcome (Unit {0})) (at : ℕ) → step_answer (Err error) ≡ enough o → refusal_of error at ≡ refused_text o.number at
refusal_is (Refused why) o at e = ap (λ (n : ℕ). refused_text n at) (ap number_in e)
refusal_is NoRoom o at e = let z : ◌≡◌ {A = ℕ} 0 1 = cc in absurd (omega arith)

-- ---- the walk
pub listing_moved : (s : FeedState Buffered) (k : ℕ) (body : List ℕ) → Moved s k body (trace_effect in_buffers s k body)
unfolding trace_effect
listing_moved s k body = let m = effect_moved in_buffers s k body in record { blocks = m.blocks; offset = m.offset; whole = m.whole; known = m.known }

abbrev pub listing_walk : Walk
listing_walk = record { effect = trace_effect in_buffers; last = λ (s : FeedState Buffered). []; asks = list_room; asks_none = room_none; moves = listing_moved }

pub record Answered (a : Result Taken StepError) (o : Outcome (Effect Buffered)) : Type 0 where
  pub is : step_answer a ≡ enough (answer_of o)

pub traces_full : {s : State} {r : Result Taken StepError} {w : Lent} {l m : List ℕ} {at : ℕ} (f : FeedState Buffered) (k : ℕ) (body : List ℕ) → Ample f.block.lent_are
    → TracesAt s r w l at m (tracing f k body (list_room k)) (list_room k)
    → TracesAt s r w l at m (record { answer = enough (answer_of (trace_effect in_buffers f k body)); state = (trace_effect in_buffers f k body).value.state; text = (trace_effect in_buffers f k body).value.text }) (list_room k)
traces_full {s} {r} {w} {l} {m} {at} f k body a t =
    subst (λ (q : Stepping). TracesAt s r w l at m q (list_room k)) (enough_room (trace_effect in_buffers) list_room f k body (list_room k) (omega arith) a) t

module _ {v b b' : Lent} {input l out out' : List ℕ} {s s' : State} {end end' : ℕ} {a : Result Taken StepError}
    (g : Going listing_walk v input l out s b end) (t : Turn listing_walk (Answered a) input s b s' b' out end out' end') where
  pub listing_refused : (error : StepError) → a ≡ Err error → Left l 0 (walk_text listing_walk v input) out' end' (refusal_of error s.offset)
  listing_refused error e =
      rw (refusal_is error _ s.offset (ap step_answer (sym e) ∙ t.answered.is)) (going_refused g t (sym (done_is a _ t.answered.is) ∙ ap is_ok e))

  pub listing_passed : (x : Taken) → a ≡ Ok x → Passed g t
  listing_passed x e = passed g t (eqb-true _ 0 (sym (done_is a _ t.answered.is) ∙ ap is_ok e))

-- ---- the history
lines_same : {s : FeedState Buffered} {t : FeedState History} → Follows s t → (kind : Option Kind) → record_lines kind s ≡ record_lines kind t
lines_same f None = refl
lines_same f (Some ParametersKind) = refl
lines_same f (Some ListKind) = refl
lines_same f (Some NoList) = refl
lines_same {s} {t} f (Some (Levels n)) = ap (λ (g : Option Parameters). levels_lines g s.list n) f.given ∙ ap (λ (list : ScalingList). levels_lines t.given list n) f.list
lines_same f (Some Edit) = refl
lines_same f (Some Reading) = refl

effect_same : {s : FeedState Buffered} {t : FeedState History} → Follows s t → (k : ℕ) (body : List ℕ) → Same (trace_effect in_buffers s k body) (trace_effect in_history t k body)
unfolding trace_effect
effect_same {s} {t} f k body =
    let e = record_follows f k body in
    record {
      number = e.number;
      text =
          ap (λ (n : ℕ). cond (eqb n 0) (record_lines (kind_of k) s) []) e.number
          ∙ ap (λ (lines : List ℕ). cond (eqb (record_effect in_history t k body).number 0) lines []) (lines_same f (kind_of k));
      state = e.state;
    }

pub listing_follows : (v : Lent) (input : List ℕ) → Ample v → walk_text listing_walk v input ≡ trace_text input
unfolding trace_text
listing_follows v input a = walks_agree (record { same = effect_same; last_same = λ f. refl }) (length input + 1) (follows_start v a) input
