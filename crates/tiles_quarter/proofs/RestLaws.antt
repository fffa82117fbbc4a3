-- Elements that are zero wherever none was seen that is not.
--   ZeroSoFar xs from i zero   where zero is true, the elements of xs from place `from` on are zero, up to place i
use mathlib.Core.Path.{◌≡◌}
use mathlib.Core.Bool.{Bool, true, ◌&&◌}
use mathlib.Core.List.{List}
use Prim.Native.Nat.{ℕ, ◌+◌, ◌≤◌, ◌<◌}
use native.Mathlib.Decide.{ℕ_discrete}
use native.Mathlib.Omega.{arith}
use lib.IntN.{ℤ, pos}
use lib.ListN.{get_or}
use Rattle.std.proofs.lemmas.Bool.{and_parts}

pub record ZeroSoFar (xs : List ℤ) (from i : ℕ) (zero : Bool) : Type 0 where
  pub at : zero ≡ true → (j : ℕ) → from ≤ j → j < i → get_or xs j (pos 0) ≡ pos 0

pub zero_none : {xs : List ℤ} {from : ℕ} {zero : Bool} → ZeroSoFar xs from from zero
zero_none = record { at = λ e j l h. absurd (let x : ⊥ = omega arith in x) }

pub zero_more : {xs : List ℤ} {from i : ℕ} (a b : Bool) → ZeroSoFar xs from i a → (b ≡ true → get_or xs i (pos 0) ≡ pos 0) → ZeroSoFar xs from (i + 1) (a && b)
zero_more {xs} {from} {i} a b p q =
    record {
      at = λ e j l h.
          let both = and_parts a b e in
          elim (ℕ_discrete j i) [
            | yes y ↦ rw y (q both.1)
            | no d ↦ p.at both.0 j l (omega arith)
          ];
    }
