-- What a call that writes a lent buffer hands back: its outcome, and the buffer afterwards.
--   Written           the outcome and the buffer
--   left out e        refused with e: the buffer as lent
--   wrote out         accepted: the buffer as it was written
--   Writes r after w  a call's answer r and its buffer `after` are what w says
use Rattle.std.specs.Prelude.{◌≡◌, List, ℤ, Result}
use Rattle.refusal.specs.declared.Refusal.{Refusal}
use Rattle.refusal.specs.Outcome.{Outcome, accepted, refused, answer}

pub record Written : Type 0 where
  pub answer : Outcome (Unit {0})
  pub out : List ℤ

abbrev pub left : List ℤ → Refusal → Written
left out e = record { answer = refused tt e; out = out }

abbrev pub wrote : List ℤ → Written
wrote out = record { answer = accepted tt; out = out }

pub record Writes (r : Result (Unit {0}) Refusal) (after : List ℤ) (w : Written) : Type 0 where
  pub answered : answer r ≡ w.answer
  pub out : after ≡ w.out
