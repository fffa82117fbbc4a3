-- `tiles::I16Output::put_rows` meets its contract: the loop has put the parts passed.
use Prim.Native.Nat.{◌*◌, ◌/◌, ◌≤◌}
use lib.ListN.{length}
use Rattle.tiles.specs.Tile.{paired, Block}
use Rattle.tiles.proofs.I16Output.put_rows.Given as goal

abbrev pub invariant-loop-t : goal.invariant-loop-t
invariant-loop-t l =
    (l.t ≤ length l.v / 8) × Block l.at (length l.v) (8 * l.t) (λ j m. paired (λ q. q.v) j l.p m) l.w l.initial.out l.out
