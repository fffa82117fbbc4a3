-- `scaling_blocks::spread::spread_row` meets its contract. The loop's invariant: entries that are laid out below the row are laid out c further.
use Prim.Native.Nat.{◌+◌, ◌*◌}
use Rattle.scaling_values.specs.Work.{spread_at, Fills}
use Rattle.scaling_blocks.proofs.spread.spread_row.Given as goal

abbrev pub invariant-loop-c : goal.invariant-loop-c
invariant-loop-c l = Fills (spread_at l.list l.n) (l.row * l.n) (l.row * l.n + l.c) l.initial.entries l.entries
