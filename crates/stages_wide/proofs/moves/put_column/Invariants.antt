-- `stages_wide::moves::put_column` meets its contract: the rows passed are stored.
use lib.ListN.{length}
use Rattle.stages_wide.specs.Parts.{limited_at, ColumnPlaced}
use Rattle.stages_wide.proofs.moves.put_column.Given as goal

abbrev pub invariant-loop-m : goal.invariant-loop-m
invariant-loop-m l = ColumnPlaced (length l.r) l.column (limited_at l.range l.r) l.m l.initial.inter l.inter
