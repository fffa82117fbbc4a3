-- `tiles::columns_in_parts` meets its contract: the loop has read the rows passed.
use mathlib.Core.List.{map}
use Prim.Native.Nat.{ℕ, ◌+◌, ◌*◌, ◌<◌, ◌≤◌}
use lib.IntN.{pos}
use lib.ListN.{get_or}
use Rattle.integers.proofs.ListsLaws.{Stored}
use Rattle.vectors.specs.Lanes.{column}
use Rattle.tiles.specs.Parts.{high_of, low_of}
use Rattle.tiles.proofs.columns_in_parts.Given as goal

abbrev pub invariant-loop-i : goal.invariant-loop-i
invariant-loop-i g l =
    (l.i ≤ g.row.Q)
    × ((j : ℕ) → j < 4 → Stored (λ m. get_or (map (high_of l.k) l.s) (m * g.row.N + (l.b + j)) (pos 0)) (column (λ q. q.v) j l.initial.h) l.i (column (λ q. q.v) j l.h))
    × ((j : ℕ) → j < 4 → Stored (λ m. get_or (map (low_of l.k) l.s) (m * g.row.N + (l.b + j)) (pos 0)) (column (λ q. q.v) j l.initial.l) l.i (column (λ q. q.v) j l.l))
