-- `picture::rebuild::put_rows` meets its contract. The loop's invariant: k rows of the block are put, and everything else is as lent.
use Prim.Native.Nat.{◌≤◌}
use Rattle.picture.specs.Samples.{rebuilt_at}
use Rattle.picture.proofs.SamplesLaws.{Rows}
use Rattle.picture.proofs.rebuild.put_rows.Given as goal

abbrev pub invariant-loop-k : goal.invariant-loop-k
invariant-loop-k l = Rows l.k l.n l.extent.stride l.x l.y (rebuilt_at l.top l.residual l.prediction) l.initial.plane l.plane × (l.k ≤ l.n)
