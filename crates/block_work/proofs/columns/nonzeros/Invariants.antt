-- `block_work::columns::nonzeros` meets its contract: as long as nothing is counted, the coefficients passed are zero.
use mathlib.Core.Path.{◌≡◌}
use Prim.Native.Nat.{ℕ, ◌≤◌, ◌<◌}
use lib.IntN.{pos}
use lib.ListN.{get_or}
use Rattle.block_work.proofs.columns.nonzeros.Given as goal

abbrev pub invariant-loop-v : goal.invariant-loop-v
invariant-loop-v l = (l.found ≤ l.v-index) × (l.found ≡ 0 → (k : ℕ) → k < l.v-index → get_or l.row k (pos 0) ≡ pos 0)
