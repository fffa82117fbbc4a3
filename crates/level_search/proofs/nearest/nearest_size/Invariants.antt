-- `level_search::nearest::nearest_size` meets its contract. The loop's invariant: no size below `low` reaches x, and `high` does, or is the end.
use mathlib.Core.Path.{◌≡◌}
use mathlib.Core.Bool.{true}
use Prim.Native.Nat.{◌≤◌, ◌<◌, ◌-◌}
use Rattle.integers.proofs.SearchLaws.{None}
use Rattle.scaling_values.specs.Level.{listed_level}
use Rattle.level_search.specs.Work.{side_end, reaches}
use Rattle.level_search.proofs.nearest.nearest_size.Given as goal

abbrev pub invariant-loop-low : goal.invariant-loop-low
invariant-loop-low l = (l.low ≤ l.high) × (l.high ≤ side_end l.by l.x) × None (reaches (listed_level l.by l.m) l.x) l.low × (l.high < side_end l.by l.x → reaches (listed_level l.by l.m) l.x l.high ≡ true)

abbrev pub decreases-loop-low : goal.decreases-loop-low
decreases-loop-low l = l.high - l.low
