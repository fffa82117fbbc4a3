-- `edit_tables::filled` meets its contract: the loop has stored the numbers passed.
use Prim.Native.Nat.{ℕ, ◌*◌, ◌/◌, ◌%◌, ◌≤◌, ◌<◌}
use mathlib.Core.Path.{◌≡◌}
use lib.IntN.{pos}
use lib.ListN.{get_or, length}
use Rattle.edit_tables.proofs.filled.Given as goal

abbrev pub invariant-loop-i : goal.invariant-loop-i
invariant-loop-i g l =
    (l.i ≤ l.n * l.n) × (length l.r ≡ 1024) × ((i : ℕ) → i < l.i → goal.F-post g l.cell (i / l.n) (i % l.n) (get_or l.r i (pos 0)))
