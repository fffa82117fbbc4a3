-- `scaling_blocks::spread::spread_rows` meets its contract. The loop's invariant: the entries of the first rows are laid out.
use Prim.Native.Nat.{◌*◌}
use Rattle.scaling_values.specs.Work.{spread_at, Fills}
use Rattle.scaling_blocks.proofs.spread.spread_rows.Given as goal

abbrev pub invariant-loop-row : goal.invariant-loop-row
invariant-loop-row l = Fills (spread_at l.list l.n) 0 (l.row * l.n) l.initial.entries l.entries
