-- Examples of definitions as a list of cases under one statement.
--   Case A         what a definition gives, and what it has to give: found gives expected
--   AllHold cases  the statement: each gives what it has to
use Rattle.std.specs.Prelude.{◌≡◌, List, map}

pub record Case (A : Type 0) : Type 0 where
  pub found : A
  pub expected : A

infix 20 ◌gives◌
abbrev pub ◌gives◌ : {A : Type 0} → A → A → Case A
found gives expected = record { found = found; expected = expected }

abbrev pub AllHold : {A : Type 0} → List (Case A) → Type 0
AllHold {A} cases = map (λ (c : Case A). c.found) cases ≡ map (λ (c : Case A). c.expected) cases
