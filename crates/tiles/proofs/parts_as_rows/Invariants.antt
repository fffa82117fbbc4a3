-- `tiles::parts_as_rows` meets its contract: four lines at a time are joined and stored as rows.
use mathlib.Core.Path.{◌≡◌}
use Prim.Native.Nat.{◌-◌, ◌%◌, ◌≤◌}
use lib.ListN.{length}
use Rattle.tiles.specs.Parts.{SplitGives}
use Rattle.tiles.proofs.parts_as_rows.Given as goal

abbrev pub invariant-loop-b : goal.invariant-loop-b
invariant-loop-b g l =
    (l.b % 4 ≡ 0) × (l.b ≤ 32) × (length l.out ≡ length l.initial.out) × SplitGives g.row.Q g.row.N l.k l.s (l.b - (l.b - l.count)) l.half l.by l.initial.out l.out

abbrev pub decreases-loop-b : goal.decreases-loop-b
decreases-loop-b g l = l.count - l.b
