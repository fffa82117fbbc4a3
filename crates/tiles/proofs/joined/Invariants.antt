-- `tiles::joined` meets its contract: the loop has joined the outputs passed.
use Prim.Native.Nat.{ℕ, ◌≤◌}
use lib.IntN.{pos, ◌+ℤ◌}
use lib.ListN.{get_or}
use Rattle.integers.specs.Shift.{shift_right}
use Rattle.integers.proofs.ListsLaws.{Stored}
use Rattle.vectors.specs.Lanes.{column}
use Rattle.tiles.proofs.joined.Given as goal

abbrev pub invariant-loop-m : goal.invariant-loop-m
invariant-loop-m g l =
    (l.m ≤ g.row.N)
    × ((j : ℕ) → Stored (λ i. shift_right (get_or (column (λ q. q.v) j l.d) i (pos 0) +ℤ get_or (column (λ q. q.v) j l.g) i (pos 0)) l.by) (column (λ q. q.v) j l.initial.v) l.m (column (λ q. q.v) j l.v))
