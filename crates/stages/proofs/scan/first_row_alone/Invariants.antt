-- `stages::scan::first_row_alone` meets its contract: the rows passed begin with zero.
use mathlib.Core.Path.{◌≡◌}
use Prim.Native.Nat.{ℕ, ◌*◌, ◌≤◌, ◌<◌}
use lib.IntN.{pos}
use lib.ListN.{get_or}
use Rattle.std.specs.Prelude.{map}
use Rattle.stages.proofs.scan.first_row_alone.Given as goal

abbrev pub invariant-loop-k : goal.invariant-loop-k
invariant-loop-k g l = (r : ℕ) → 1 ≤ r → r < l.k → get_or (map g.V.Output.value l.coeff) (r * l.n) (pos 0) ≡ pos 0
