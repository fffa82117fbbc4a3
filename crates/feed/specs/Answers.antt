-- What the entry points of the feed hand back.
--   step_answer r               what an answer of `step` stands for
--   Steps s r w l m t           a call of `step` on the state s handed back t: w are the four buffers after it, l is its text's buffer before, m after
--   Runs r l m bytes            a call of `run` on a feed, likewise
use Rattle.std.specs.Prelude.{◌≡◌, List, ℕ, ◌≤◌, ◌<◌, length, Option, Some, None, Result, Ok, Err}
use Rattle.refusal.specs.Outcome.{Outcome, accepted, refused}
use Rattle.text.specs.Text.{Wrote, Counts}
use Rattle.feed_format.specs.Room.{feed_room}
use Rattle.feed_rules.specs.Feed.{feed_text}
use Rattle.feed_state.specs.declared.State.{State}
use Rattle.feed_state.specs.Buffers.{Lent}
use Rattle.feed_state.specs.Taken.{state_of, capped, state_after, end_after}
use Rattle.feed_history.specs.Stepping.{IfRoom, Stepping}
use Rattle.feed_history.specs.Stepping.IfRoom.{too_little, enough}
use Rattle.feed.specs.declared.StepError.{StepError}
use Rattle.feed.specs.declared.StepError.TheVariants.{Refused, NoRoom}
use Rattle.feed_state.specs.declared.Taken.{Taken}

abbrev pub step_answer : Result Taken StepError → IfRoom (Outcome (Unit {0}))
step_answer (Ok t) = enough (accepted tt)
step_answer (Err (Refused e)) = enough (refused tt e)
step_answer (Err NoRoom) = too_little

pub record Steps (s : State) (r : Result Taken StepError) (w : Lent) (l m : List ℕ) (t : Stepping) : Type 0 where
  pub answered : step_answer r ≡ t.answer
  pub state : state_of (state_after s r) w ≡ capped t.state
  pub wrote : Wrote l 0 t.text m (end_after 0 r)
  pub counts : Counts (end_after 0 r) m

-- the text of the feed, where there is room for it; else the buffer is as lent
abbrev pub Runs : Option ℕ → List ℕ → List ℕ → List ℕ → Type 0
Runs (Some end) l m bytes = (feed_room bytes ≤ length l) × Wrote l 0 (feed_text bytes) m end × Counts end m
Runs None l m bytes = (length l < feed_room bytes) × (m ≡ l)
