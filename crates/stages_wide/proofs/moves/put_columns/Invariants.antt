-- `stages_wide::moves::put_columns` meets its contract: the columns passed are stored.
use Prim.Native.Nat.{◌+◌, ◌*◌}
use Rattle.transform_1d.specs.Rows.{Filled}
use Rattle.stages_wide.specs.Parts.{limited_at}
use Rattle.stages_wide.proofs.moves.put_columns.Given as goal

abbrev pub invariant-loop-c : goal.invariant-loop-c
invariant-loop-c l = Filled l.n l.c (λ m i. limited_at l.range l.g (i * l.n + m)) l.n l.initial.inter l.inter
