-- Bounds on integers; records, so that what they speak of is inferred from a proof of them.
--   Within b z    |z| ≤ b
--   Narrow w xs   the first w elements of xs fit 16 bits
use Rattle.std.specs.Prelude.{List, ℕ, ◌<◌, ◌≤◌, ℤ, pos, nat_abs, get_or}
use Rattle.std.specs.Int.{w16}
use Rattle.std.proofs.Common.{SFits}

pub record Within (b : ℕ) (z : ℤ) : Type 0 where
  pub within : nat_abs z ≤ b

pub record Narrow (w : ℕ) (xs : List ℤ) : Type 0 where
  pub at : (j : ℕ) → j < w → SFits w16 (get_or xs j (pos 0))
