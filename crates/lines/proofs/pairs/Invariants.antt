-- `lines::pairs` meets its contract: the pairs passed stand at their places, lane by lane, and there are no more than half as many as entries.
use Prim.Native.Nat.{ℕ, ◌/◌, ◌≤◌}
use Rattle.std.proofs.Common.{◌-◌}
use Rattle.vectors.specs.Lanes.{column}
use Rattle.lines.proofs.DotLaws.{PairsTo}
use Rattle.lines.proofs.pairs.Given as goal

abbrev pub invariant-loop-k : goal.invariant-loop-k
invariant-loop-k g l = (l.k ≤ g.row.H / 2) × ((j : ℕ) → PairsTo g.row.H l.t l.st (column (λ q. q.v) j l.x) l.k (column (λ q. q.v) j l.s))

abbrev pub decreases-loop-k : goal.decreases-loop-k
decreases-loop-k g l = g.row.H - l.k
