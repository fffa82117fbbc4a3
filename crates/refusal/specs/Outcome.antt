-- What a call hands back, in the terms of docs/RULES.md: 0, or a number and a place; and the values, which are zeros on refusal. A place is one
-- number, or a coefficient's row and column.
--   Outcome A     number, place, row, column and values of type A
--   accepted v    0, no place, the values
--   refused z e   the refusal's number and place, and z, the values' zeros
--   outcome z r   the outcome of a call's result r, whose values' zeros are z
--   answer r      the outcome of a call that hands back no value
use Rattle.std.specs.Prelude.{ℕ, Result, Ok, Err}
use Rattle.refusal.specs.declared.Refusal.{Refusal}
use Rattle.refusal.specs.Refusal.{number, place, row, column}

pub record Outcome (A : Type 0) : Type 0 where
  pub number : ℕ
  pub place : ℕ
  pub row : ℕ
  pub column : ℕ
  pub value : A

abbrev pub accepted : {A : Type 0} → A → Outcome A
accepted v = record { number = 0; place = 0; row = 0; column = 0; value = v }

abbrev pub refused : {A : Type 0} → A → Refusal → Outcome A
refused z e = record { number = number e; place = place e; row = row e; column = column e; value = z }

abbrev pub outcome : {A : Type 0} → A → Result A Refusal → Outcome A
outcome z (Ok v) = accepted v
outcome z (Err e) = refused z e

abbrev pub answer : Result (Unit {0}) Refusal → Outcome (Unit {0})
answer r = outcome tt r
