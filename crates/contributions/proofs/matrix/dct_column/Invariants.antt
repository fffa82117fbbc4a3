-- `contributions::matrix::dct_column` meets its contract: the loop has stored the entries of the rows passed.
use mathlib.Core.Path.{◌≡◌}
use Prim.Native.Nat.{◌/◌, ◌≤◌}
use lib.IntN.{pos}
use lib.ListN.{replicate}
use Rattle.integers.proofs.ListsLaws.{Stored}
use Rattle.h265.specs.Matrix.{trans_matrix}
use Rattle.contributions.proofs.matrix.dct_column.Given as goal

abbrev pub invariant-loop-k : goal.invariant-loop-k
invariant-loop-k l = (l.k ≤ l.n) × (l.stride ≡ 1024 / l.n) × Stored (λ i. trans_matrix l.n i l.m) (replicate 32 (pos 0)) l.k l.r
