-- `scaling_blocks::spread::copy_row` meets its contract. The loop's invariant: the first c entries of the row have become those above them.
use Prim.Native.Nat.{◌≤◌}
use Rattle.scaling_blocks.specs.Spread.{Copied}
use Rattle.scaling_blocks.proofs.spread.copy_row.Given as goal

abbrev pub invariant-loop-c : goal.invariant-loop-c
invariant-loop-c l = (l.c ≤ l.n) × Copied l.n l.row l.c l.initial.entries l.entries
