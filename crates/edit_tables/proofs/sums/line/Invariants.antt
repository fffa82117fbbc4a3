-- `edit_tables::sums::line` meets its contract: the loop has added the products passed.
use mathlib.Core.Path.{◌≡◌}
use Prim.Native.Nat.{◌+◌, ◌*◌, ◌≤◌}
use lib.IntN.{pos}
use lib.ListN.{get_or}
use Rattle.h265.specs.Transform.{block_at, transform_line}
use Rattle.edit_tables.proofs.sums.line.Given as goal

abbrev pub invariant-loop-k : goal.invariant-loop-k
invariant-loop-k l = (l.k ≤ l.n) × (l.sum ≡ transform_line (block_at l.n l.t) l.k (λ i. get_or l.x (l.base + i * l.stride) (pos 0)) l.m)
