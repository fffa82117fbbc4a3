-- One record given to a step with some room for its text.
--   IfRoom A                     too little room, decided before anything else; else an answer
--   Stepping                     the answer to one record, the state and the text
--   too_short w                  a buffer of the open block has no room for the largest block
--   stepping_by, stepping        the step for a buffer of some length: by what a record does and the bytes that its text may take, and that of the feed
use Rattle.std.specs.Prelude.{Bool, ◌||◌, cond, List, [], ℕ, ltb, length}
use Rattle.refusal.specs.Outcome.{Outcome}
use Rattle.feed_format.specs.Format.{record_room}
use Rattle.feed_rules.specs.Record.{FeedState, Effect, record_effect}
use Rattle.feed_state.specs.Buffers.{Lent, Buffered, in_buffers}
use Rattle.feed_state.specs.Taken.{answer_of}

pub data IfRoom (A : Type 0) : Type 0 where
  too_little : IfRoom A
  enough : A → IfRoom A

pub record Stepping : Type 0 where
  pub answer : IfRoom (Outcome (Unit {0}))
  pub state : FeedState Buffered
  pub text : List ℕ

unfoldable pub too_short : Lent → Bool
too_short w = (ltb (length w.levels) 1024 || ltb (length w.buffers.coeff) 1024) || (ltb (length w.buffers.inter) 1024 || ltb (length w.buffers.res) 1024)

unfoldable pub stepping_by : (FeedState Buffered → ℕ → List ℕ → Outcome (Effect Buffered)) → (ℕ → ℕ) → FeedState Buffered → ℕ → List ℕ → ℕ → Stepping
stepping_by effect asks s k body room =
    cond (ltb room (asks k) || too_short s.block.lent_are) (record { answer = too_little; state = s; text = [] })
    (let o : Outcome (Effect Buffered) = effect s k body in record { answer = enough (answer_of o); state = o.value.state; text = o.value.text })

abbrev pub stepping : FeedState Buffered → ℕ → List ℕ → ℕ → Stepping
stepping = stepping_by (record_effect in_buffers) record_room
