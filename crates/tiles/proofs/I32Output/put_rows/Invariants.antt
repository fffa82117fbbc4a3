-- `tiles::I32Output::put_rows` meets its contract: the loop has put the parts passed.
use Prim.Native.Nat.{◌*◌, ◌/◌, ◌≤◌}
use lib.IntN.{pos}
use lib.ListN.{get_or, length}
use Rattle.vectors.specs.Lanes.{column}
use Rattle.tiles.specs.Tile.{Block}
use Rattle.tiles.proofs.I32Output.put_rows.Given as goal

abbrev pub invariant-loop-t : goal.invariant-loop-t
invariant-loop-t l =
    (l.t ≤ length l.v / 4) × Block l.at (length l.v) (4 * l.t) (λ j m. get_or (column (λ q. q.v) j l.v) m (pos 0)) l.w l.initial.out l.out
