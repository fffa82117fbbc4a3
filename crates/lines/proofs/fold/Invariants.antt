-- `lines::fold` meets its contract: the loop has stored the sums and the differences of the places passed, lane by lane.
use mathlib.Core.Path.{◌≡◌}
use Prim.Native.Nat.{ℕ, ◌*◌}
use Rattle.vectors.specs.Lanes.{column}
use Rattle.lines.proofs.FoldLaws.{FoldedTo}
use Rattle.lines.proofs.fold.Given as goal

abbrev pub invariant-loop-m : goal.invariant-loop-m
invariant-loop-m g l =
    (g.row.M ≡ 2 * g.row.H) × ((j : ℕ) → FoldedTo g.row.H (column (λ q. q.v) j l.e) (column (λ q. q.v) j l.o) l.m (column (λ q. q.v) j l.z))
