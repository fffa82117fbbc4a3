-- `stages_wide::moves::limited_column` meets its contract: the values passed are stored.
use Prim.Native.Nat.{◌+◌, ◌*◌}
use Rattle.transform_1d.specs.Rows.{Placed}
use Rattle.stages_wide.specs.Parts.{limited_at}
use Rattle.stages_wide.proofs.moves.limited_column.Given as goal

abbrev pub invariant-loop-k : goal.invariant-loop-k
invariant-loop-k l = Placed 0 l.k (λ i. limited_at l.range l.s (i * l.n + l.column)) l.initial.x l.x
