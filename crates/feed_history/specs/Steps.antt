-- A feed whose records are given to `step` one by one, as the program does, each call with the state and the buffers that the one before left, and then the
-- last line. Change request R-14: the run of a feed is that of the edited block, edit by edit.
--   buffered_text w bytes      the text by the records' effects in buffers
--   stepped_text w room bytes  the text by the answers of `step`, whose text buffer has so many bytes
--   BuffersFollowHistory      what is in the buffers is the history's, over every feed: `buffers_follow_history` of proofs/FollowLaws
--   StepsFollowHistory        and so is what the program writes: `steps_follow_history` of proofs/StepsLaws
use Rattle.std.specs.Prelude.{◌≡◌, cond, List, [], ◌∷◌, ◌++◌, ℕ, zero, suc, ◌+◌, ◌≤◌, eqb, length, take, drop}
use Rattle.refusal.specs.Outcome.{Outcome}
use Rattle.feed_format.specs.Format.{record_length}
use Rattle.feed_lines.specs.Lines.{refused_text}
use Rattle.feed_rules.specs.Record.{FeedState, record_effect}
use Rattle.feed_rules.specs.Feed.{text_by, beginning, last_line, feed_text}
use Rattle.feed_state.specs.Buffers.{Lent, Buffered, closed, in_buffers}
use Rattle.feed_state.specs.Taken.{capped, Ample}
use Rattle.feed_history.specs.Stepping.{IfRoom, Stepping, stepping}
use Rattle.feed_history.specs.Stepping.IfRoom.{too_little, enough}

unfoldable pub buffered_text : Lent → List ℕ → List ℕ
buffered_text w bytes = text_by (record_effect in_buffers) last_line (length bytes + 1) (beginning (closed w)) bytes

-- after a step's text: the rest; or the line of a refusal, and nothing after it; nothing at all where there was no room
abbrev pub after_step : IfRoom (Outcome (Unit {0})) → ℕ → List ℕ → List ℕ
after_step too_little at rest = []
after_step (enough o) at rest = cond (eqb o.number 0) rest (refused_text o.number at)

unfoldable pub steps_from : ℕ → ℕ → FeedState Buffered → List ℕ → List ℕ
steps_from room zero s bytes = []
steps_from room (suc fuel) s [] = last_line s
steps_from room (suc fuel) s (k ∷ bytes) =
    let t : Stepping = stepping s k (take (record_length k) bytes) room in
    t.text ++ after_step t.answer s.offset (steps_from room fuel (capped t.state) (drop (record_length k) bytes))

unfoldable pub stepped_text : Lent → ℕ → List ℕ → List ℕ
stepped_text w room bytes = steps_from room (length bytes + 1) (beginning (closed w)) bytes

-- for every feed, accepted or refused, whatever the buffers hold at first
abbrev pub BuffersFollowHistory : Type 0
BuffersFollowHistory = (w : Lent) (bytes : List ℕ) → Ample w → buffered_text w bytes ≡ feed_text bytes

-- of no more bytes than 64 bits count
abbrev pub StepsFollowHistory : Type 0
StepsFollowHistory = (w : Lent) (room : ℕ) (bytes : List ℕ) → Ample w → 12317 ≤ room → length bytes ≤ 18446744073709551615 → stepped_text w room bytes ≡ feed_text bytes
