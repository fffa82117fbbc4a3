-- `tiles::lines_as_rows` meets its contract: four lines at a time are stored as rows.
use mathlib.Core.Path.{◌≡◌}
use mathlib.Core.List.{map}
use Prim.Native.Nat.{◌-◌, ◌%◌, ◌≤◌}
use lib.ListN.{length}
use Rattle.transform_1d.specs.Rows.{Filled}
use Rattle.tiles.specs.Tile.{first_rows, line_value}
use Rattle.tiles.proofs.lines_as_rows.Given as goal

abbrev pub invariant-loop-b : goal.invariant-loop-b
invariant-loop-b g l =
    let o = g.T.Output in
    let n = g.row.N in
    (l.b % 4 ≡ 0) × (l.b ≤ 32) × (length l.out ≡ length l.initial.out)
    × Filled n n (λ c m. o.made (line_value n l.half l.s (first_rows g.row.Q n (map g.I.Input.read l.a)) c m)) (l.b - (l.b - l.count)) (map o.value l.initial.out) (map o.value l.out)

abbrev pub decreases-loop-b : goal.decreases-loop-b
decreases-loop-b g l = l.count - l.b
