-- `edit_values::halve` meets its contract. The loop's invariant: no place below `low` is past, and every place from `high` on is.
use mathlib.Core.Path.{◌≡◌}
use mathlib.Core.Bool.{true, false}
use Prim.Native.Nat.{ℕ, ◌≤◌, ◌<◌, ◌-◌}
use Rattle.edit_values.specs.Sample.{past}
use Rattle.edit_values.proofs.halve.Given as goal

abbrev pub invariant-loop-low : goal.invariant-loop-low
invariant-loop-low l = (l.fn.span.from ≤ l.low) × (l.low ≤ l.high) × (l.high ≤ l.fn.span.to) × ((o : ℕ) → l.fn.span.from ≤ o → o < l.low → past l.p l.strict o ≡ false) × ((o : ℕ) → l.high ≤ o → o < l.fn.span.to → past l.p l.strict o ≡ true)

abbrev pub decreases-loop-low : goal.decreases-loop-low
decreases-loop-low l = l.high - l.low
