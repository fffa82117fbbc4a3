-- `level_edits::places::first_beyond` meets its contract. The loop's invariant: no place below `low` is beyond the end, and every place from `high` on is.
use mathlib.Core.Path.{◌≡◌}
use mathlib.Core.Bool.{true, false}
use Prim.Native.Nat.{ℕ, ◌≤◌, ◌<◌, ◌-◌}
use Rattle.scaling_values.specs.Level.{listed_level}
use Rattle.edit_values.specs.Values.{value_count}
use Rattle.level_edits.specs.Work.{beyond}
use Rattle.level_edits.proofs.places.first_beyond.Given as goal

abbrev pub invariant-loop-low : goal.invariant-loop-low
invariant-loop-low l = (l.low ≤ l.high) × (l.high ≤ value_count l.range) × ((o : ℕ) → 0 ≤ o → o < l.low → beyond (listed_level l.by l.m) l.range l.end l.strict o ≡ false)
    × ((o : ℕ) → l.high ≤ o → o < value_count l.range → beyond (listed_level l.by l.m) l.range l.end l.strict o ≡ true)

abbrev pub decreases-loop-low : goal.decreases-loop-low
decreases-loop-low l = l.high - l.low
