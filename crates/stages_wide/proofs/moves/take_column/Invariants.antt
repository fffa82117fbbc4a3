-- `stages_wide::moves::take_column` meets its contract: the values passed are copied.
use Prim.Native.Nat.{◌+◌, ◌*◌}
use lib.IntN.{pos}
use lib.ListN.{get_or}
use Rattle.std.specs.Prelude.{map}
use Rattle.stages_wide.specs.Parts.{ColumnPlaced}
use Rattle.stages_wide.proofs.moves.take_column.Given as goal

abbrev pub invariant-loop-k : goal.invariant-loop-k
invariant-loop-k g l = ColumnPlaced l.n 0 (λ i. get_or l.s (i * l.n + l.column) (pos 0)) l.k (map g.V.Output.value l.initial.g) (map g.V.Output.value l.g)
