-- `tiles::limited_pairs` meets its contract: the outputs passed stand in their rows, limited.
use mathlib.Core.Path.{◌≡◌}
use Prim.Native.Nat.{ℕ, ◌*◌, ◌/◌, ◌≤◌, ◌<◌}
use lib.IntN.{pos}
use lib.ListN.{get_or, length}
use Rattle.h265.specs.Range.{clip_coeff}
use Rattle.vectors.specs.Lanes.{column}
use Rattle.tiles.specs.Tile.{paired}
use Rattle.tiles.proofs.limited_pairs.Given as goal

abbrev pub invariant-loop-t : goal.invariant-loop-t
invariant-loop-t l =
    (l.t ≤ length l.v / 2) × (length l.p ≡ 16) × ((j m : ℕ) → j < 4 → m < 2 * l.t → paired (λ q. q.v) j l.p m ≡ clip_coeff 15 (get_or (column (λ q. q.v) j l.v) m (pos 0)))
