-- `contributions::matrix::dst_column` meets its contract: the loop has stored the entries of the rows passed.
use Prim.Native.Nat.{◌≤◌}
use lib.IntN.{pos}
use lib.ListN.{replicate}
use Rattle.integers.proofs.ListsLaws.{Stored}
use Rattle.h265.specs.Matrix.{dst_matrix}
use Rattle.contributions.proofs.matrix.dst_column.Given as goal

abbrev pub invariant-loop-k : goal.invariant-loop-k
invariant-loop-k l = (l.k ≤ 4) × Stored (λ i. dst_matrix i l.m) (replicate 32 (pos 0)) l.k l.r
