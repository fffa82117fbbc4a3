-- What `step` and `run` hand back, and what the functions below them rely on.
--   tracing                        the answer to one record, the state and the text, for a buffer of some length
--   Lists r l m bytes              a call of `run` on a feed: l is its buffer before, m after
--   refusal_of error at             the line of a refusal
--   TracesAt s r w l at m t room   a record was taken, below the question of room for its lines: they stand at a place of the buffer; w are the four
--                                  buffers of the open block after it
use Rattle.std.specs.Prelude.{◌≡◌, List, [], ℕ, ◌+◌, ◌≤◌, ◌<◌, length, Option, Some, None, Result}
use Rattle.refusal.specs.Refusal.{number}
use Rattle.text.specs.Text.{Wrote, WroteUpTo, Counts}
use Rattle.feed_lines.specs.Lines.{refused_text}
use Rattle.feed_rules.specs.Record.{FeedState}
use Rattle.feed_state.specs.declared.State.{State}
use Rattle.feed_state.specs.Buffers.{Lent, Buffered, in_buffers}
use Rattle.feed_state.specs.Taken.{state_of, capped, state_after, end_after}
use Rattle.feed_history.specs.Stepping.{Stepping, stepping_by}
use Rattle.feed.specs.declared.StepError.{StepError}
use Rattle.feed.specs.declared.StepError.TheVariants.{Refused, NoRoom}
use Rattle.feed_state.specs.declared.Taken.{Taken}
use Rattle.feed.specs.Answers.{step_answer}
use Rattle.scale_trace_rules.specs.Trace.{trace_effect, list_room, trace_text, listing_room}

abbrev pub tracing : FeedState Buffered → ℕ → List ℕ → ℕ → Stepping
tracing = stepping_by (trace_effect in_buffers) list_room

-- the listing, where there is room for it; else the buffer is as lent
abbrev pub Lists : Option ℕ → List ℕ → List ℕ → List ℕ → Type 0
Lists (Some end) l m bytes = (listing_room bytes ≤ length l) × Wrote l 0 (trace_text bytes) m end × Counts end m
Lists None l m bytes = (length l < listing_room bytes) × (m ≡ l)

abbrev pub refusal_of : StepError → ℕ → List ℕ
refusal_of (Refused e) at = refused_text (number e) at
refusal_of NoRoom at = []

pub record TracesAt (s : State) (r : Result Taken StepError) (w : Lent) (l : List ℕ) (at : ℕ) (m : List ℕ) (t : Stepping) (room : ℕ) : Type 0 where
  pub answered : step_answer r ≡ t.answer
  pub state : state_of (state_after s r) w ≡ capped t.state
  pub text : WroteUpTo l at t.text m (end_after at r) (at + room)
