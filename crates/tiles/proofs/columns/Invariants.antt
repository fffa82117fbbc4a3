-- `tiles::columns` meets its contract: the loop has read the rows passed.
use mathlib.Core.List.{map}
use Prim.Native.Nat.{ℕ, ◌+◌, ◌*◌, ◌<◌, ◌≤◌}
use lib.IntN.{pos}
use lib.ListN.{get_or}
use Rattle.integers.proofs.ListsLaws.{Stored}
use Rattle.vectors.specs.Lanes.{column}
use Rattle.tiles.proofs.columns.Given as goal

abbrev pub invariant-loop-k : goal.invariant-loop-k
invariant-loop-k g l = (l.k ≤ g.row.Q) × ((j : ℕ) → j < 4 → Stored (λ i. get_or (map g.I.Input.read l.a) (i * g.row.N + (l.b + j)) (pos 0)) (column (λ q. q.v) j l.initial.x) l.k (column (λ q. q.v) j l.x))
