-- `lines::dot` meets its contract: the loop has added up the pairs passed, lane by lane.
use Prim.Native.Nat.{ℕ}
use Rattle.vectors.specs.Lanes.{lane, column}
use Rattle.lines.proofs.DotLaws.{Dotted}
use Rattle.lines.proofs.dot.Given as goal

abbrev pub invariant-loop-k : goal.invariant-loop-k
invariant-loop-k g l = (j : ℕ) → Dotted l.t l.st (column (λ q. q.v) j l.x) l.k (lane j l.s.v)
