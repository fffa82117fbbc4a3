-- What a record that was taken leaves.
--   state_of s w             what a state of the code and the four buffers stand for
--   capped s                a state as the code holds it: blocks and offset stop at the largest 64-bit number, which no input reaches
--   state_after s r, end_after at r    state and end of a record's text, by what was handed back: one that was not taken leaves both
--   told r                   that without them
--   answer_of o              number and place without the values
--   Ample w                 each of the four buffers has room for the largest block
--   Takes                   a record was taken, below the question of room: its text stands at a place of the buffer; a refused one leaves the state
--   Quiet                   the same of a record without text
--   Silent                  the same of one that leaves the four buffers, whatever they hold
use Rattle.std.specs.Prelude.{◌≡◌, List, [], ℕ, ◌+◌, ◌≤◌, min, length, Result, Ok, Err}
use Rattle.refusal.specs.declared.Refusal.{Refusal}
use Rattle.refusal.specs.Outcome.{Outcome, answer}
use Rattle.text.specs.Text.{WroteUpTo}
use Rattle.feed_rules.specs.Block.{list_in}
use Rattle.feed_rules.specs.Record.{FeedState, Effect}
use Rattle.feed_state.specs.declared.State.{State}
use Rattle.feed_state.specs.declared.Taken.{Taken}
use Rattle.feed_state.specs.Buffers.{Lent, Buffered}

abbrev pub state_of : State → Lent → FeedState Buffered
state_of s w =
    record {
      given = s.given;
      list = list_in s.list;
      block = record { held = s.held; lent_are = w };
      blocks = s.blocks;
      offset = s.offset;
    }

unfoldable pub capped : {H : Type 0} → FeedState H → FeedState H
capped s =
    record {
      given = s.given;
      list = s.list;
      block = s.block;
      blocks = min s.blocks 18446744073709551615;
      offset = min s.offset 18446744073709551615;
    }

abbrev pub state_after : {E : Type 0} → State → Result Taken E → State
state_after s (Ok t) = t.state
state_after s (Err error) = s

abbrev pub end_after : {E : Type 0} → ℕ → Result Taken E → ℕ
end_after at (Ok t) = t.end
end_after at (Err error) = at

abbrev pub told : Result Taken Refusal → Result (Unit {0}) Refusal
told (Ok t) = Ok tt
told (Err why) = Err why

abbrev pub answer_of : {A : Type 0} → Outcome A → Outcome (Unit {0})
answer_of o = record { number = o.number; place = o.place; row = o.row; column = o.column; value = tt }

pub record Ample (w : Lent) : Type 0 where
  pub levels : 1024 ≤ length w.levels
  pub coeff : 1024 ≤ length w.buffers.coeff
  pub inter : 1024 ≤ length w.buffers.inter
  pub res : 1024 ≤ length w.buffers.res

pub record Takes (s : State) (r : Result Taken Refusal) (w : Lent) (l : List ℕ) (at : ℕ) (m : List ℕ) (o : Outcome (Effect Buffered)) (room : ℕ) : Type 0 where
  pub answered : answer (told r) ≡ answer_of o
  pub state : state_of (state_after s r) w ≡ capped o.value.state
  pub text : WroteUpTo l at o.value.text m (end_after at r) (at + room)

pub record Quiet (s : State) (r : Result Taken Refusal) (w : Lent) (at : ℕ) (o : Outcome (Effect Buffered)) : Type 0 where
  pub answered : answer (told r) ≡ answer_of o
  pub state : state_of (state_after s r) w ≡ capped o.value.state
  pub end : end_after at r ≡ at
  pub none : o.value.text ≡ []

pub record Silent (s : State) (r : Result Taken Refusal) (at : ℕ) (o : FeedState Buffered → Outcome (Effect Buffered)) : Type 0 where
  pub leaves : (w : Lent) → Quiet s r w at (o (state_of s w))
