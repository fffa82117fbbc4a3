-- The feed as a walk over its records.
--   feed_walk                    what a record of the feed does, the last line, and the bytes that its text may take
--   Answered                    the answer to a record is that of its effect
--   feed_refused, feed_passed   after a record, by its answer
use Rattle.std.specs.Prelude.{Result, Ok, Err}
use mathlib.Core.Path.{◌≡◌, sym, ap, ◌∙◌}
use mathlib.Core.List.{List}
use Prim.Native.Nat.{ℕ}
use native.Mathlib.Omega.{arith}
use borrow.Author.Tests.{ne_eqb}
use Rattle.refusal.specs.Outcome.{Outcome, answer}
use Rattle.refusal.specs.Refusal.{number}
use Rattle.refusal.proofs.RefusalLaws.{number_least}
use Rattle.refusal.specs.declared.Refusal.{Refusal}
use Rattle.text.proofs.WroteLaws.{Left}
use Rattle.feed_format.specs.Format.{record_room}
use Rattle.feed_format.proofs.FormatLaws.{unknown_room}
use Rattle.feed_lines.specs.Lines.{refused_text}
use Rattle.feed_rules.specs.Record.{Effect, record_effect}
use Rattle.feed_rules.specs.Feed.{last_line}
use Rattle.feed_rules.proofs.EffectLaws.{effect_moved}
use Rattle.feed_state.specs.declared.State.{State}
use Rattle.feed_state.specs.Buffers.{Lent, Buffered, in_buffers}
use Rattle.feed_state.specs.Taken.{state_of, answer_of}
use Rattle.feed_history.proofs.WalkLaws.{Walk, walk_text, Going, effect_at, Turn, Passed, passed, going_refused}

abbrev pub feed_walk : Walk
feed_walk = record { effect = record_effect in_buffers; last = last_line; asks = record_room; asks_none = unknown_room; moves = effect_moved in_buffers }

pub record Answered (a : Result (Unit {0}) Refusal) (o : Outcome (Effect Buffered)) : Type 0 where
  pub is : answer a ≡ answer_of o

module _ {v b b' : Lent} {input l out out' : List ℕ} {s s' : State} {end end' : ℕ} {a : (Result (Unit {0}) Refusal)}
    (g : Going feed_walk v input l out s b end) (t : Turn feed_walk (Answered a) input s b s' b' out end out' end') where
  number_is : (x : Result (Unit {0}) Refusal) → a ≡ x → (answer x).number ≡ (effect_at feed_walk input (state_of s b)).number
  number_is x e = ap (λ (y : Result (Unit {0}) Refusal). (answer y).number) (sym e) ∙ ap (λ (o : Outcome (Unit {0})). o.number) t.answered.is

  pub feed_refused : (why : Refusal) → a ≡ Err why → Left l 0 (walk_text feed_walk v input) out' end' (refused_text (number why) s.offset)
  feed_refused why e =
      let n : number why ≡ (effect_at feed_walk input (state_of s b)).number = number_is (Err why) e in
      rw n (going_refused g t (ne_eqb _ 0 (λ z. omega (arith, number_least why, n ∙ z))))

  pub feed_passed : a ≡ Ok tt → Passed g t
  feed_passed e = passed g t (sym (number_is (Ok tt) e))
