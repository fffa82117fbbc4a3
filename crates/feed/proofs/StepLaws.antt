-- What `step` hands back.
--   long_buffers            what is known where no buffer is too short
--   steps_none, steps_taken   of a step without room, and of any other
--   stepped                 what `step` answers for a record's answer
use Rattle.std.specs.Prelude.{Result, Ok, Err}
use mathlib.Core.Path.{◌≡◌, refl, sym, ap}
use mathlib.Core.Bool.{false, ◌||◌}
use mathlib.Core.List.{List, []}
use Prim.Native.Nat.{ℕ, ◌≤◌}
use native.Mathlib.Omega.{arith}
use borrow.Author.Tests.{ltb-false}
use lib.Dec.{ltb}
use lib.ListN.{length}
use Rattle.refusal.specs.declared.Refusal.{Refusal}
use Rattle.refusal.specs.Outcome.{Outcome}
use Rattle.text.proofs.WroteLaws.{wrote_none, counts}
use Rattle.feed_rules.specs.Record.{Effect}
use Rattle.feed_state.specs.declared.State.{State}
use Rattle.feed_state.specs.declared.Taken.{Taken}
use Rattle.feed_state.specs.Buffers.{Lent, Buffered}
use Rattle.feed_state.specs.Taken.{state_of, answer_of, Ample, Takes}
use Rattle.feed_state.proofs.StateLaws.{capped_id}
use Rattle.feed_history.specs.Stepping.{too_short}
use Rattle.feed_history.specs.Stepping.IfRoom.{too_little, enough}
use Rattle.integers.proofs.TestLaws.{neither}
use Rattle.feed.specs.declared.StepError.{StepError}
use Rattle.feed.specs.declared.StepError.TheVariants.{Refused, NoRoom}
use Rattle.feed.specs.Answers.{Steps}

pub long_buffers : (w : Lent) → too_short w ≡ false → Ample w
unfolding too_short
long_buffers w e =
    let both = neither (ltb (length w.levels) 1024 || ltb (length w.buffers.coeff) 1024) (ltb (length w.buffers.inter) 1024 || ltb (length w.buffers.res) 1024) e in
    let l = neither (ltb (length w.levels) 1024) (ltb (length w.buffers.coeff) 1024) both.0 in
    let r = neither (ltb (length w.buffers.inter) 1024) (ltb (length w.buffers.res) 1024) both.1 in
    record { levels = ltb-false (length w.levels) 1024 l.0; coeff = ltb-false (length w.buffers.coeff) 1024 l.1; inter = ltb-false (length w.buffers.inter) 1024 r.0; res = ltb-false (length w.buffers.res) 1024 r.1 }

-- a step without room
pub steps_none : (s : State) (w : Lent) (l : List ℕ) → s.blocks ≤ 18446744073709551615 → s.offset ≤ 18446744073709551615
    → Steps s (Err NoRoom) w l l (record { answer = too_little; state = state_of s w; text = [] })
steps_none s w l h k = record { answered = refl; state = sym (capped_id (state_of s w) h k); wrote = wrote_none l 0; counts = counts 0 l (omega arith) }

-- what `step` answers for a record's answer
abbrev pub stepped : Result Taken Refusal → Result Taken StepError
stepped (Ok t) = Ok t
stepped (Err why) = Err (Refused why)

pub steps_taken : {s : State} {w : Lent} {l m : List ℕ} {o : Outcome (Effect Buffered)} {room : ℕ} (r : Result Taken Refusal) → Takes s r w l 0 m o room → room ≤ length m
    → Steps s (stepped r) w l m (record { answer = enough (answer_of o); state = o.value.state; text = o.value.text })
steps_taken {m = m} (Ok x) t h = record { answered = ap enough t.answered; state = t.state; wrote = t.text.wrote; counts = counts x.end m (omega (arith, t.text.bound)) }
steps_taken {m = m} (Err why) t h = record { answered = ap enough t.answered; state = t.state; wrote = t.text.wrote; counts = counts 0 m (omega arith) }
