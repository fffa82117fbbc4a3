-- `picture::rebuild::rebuild_row` meets its contract. The loop's invariant: c samples of the row are put, and the others are as lent.
use Prim.Native.Nat.{◌+◌, ◌≤◌}
use Rattle.picture.specs.Samples.{rebuilt_at}
use Rattle.picture.specs.Rebuild.{Placed}
use Rattle.picture.proofs.rebuild.rebuild_row.Given as goal

abbrev pub invariant-loop-c : goal.invariant-loop-c
invariant-loop-c l = Placed l.at l.c (λ k. rebuilt_at l.top l.residual l.prediction (l.from + k)) l.initial.plane l.plane × (l.c ≤ l.n)
