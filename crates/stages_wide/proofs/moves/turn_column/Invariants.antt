-- `stages_wide::moves::turn_column` meets its contract: the values passed are copied.
use Prim.Native.Nat.{◌+◌, ◌*◌}
use lib.IntN.{pos}
use lib.ListN.{get_or}
use Rattle.std.specs.Prelude.{map}
use Rattle.transform_1d.specs.Rows.{Placed}
use Rattle.stages_wide.proofs.moves.turn_column.Given as goal

abbrev pub invariant-loop-k : goal.invariant-loop-k
invariant-loop-k g l = Placed (l.c * l.n) l.k (λ i. get_or l.s (i * l.n + l.c) (pos 0)) (map g.V.Output.value l.initial.g) (map g.V.Output.value l.g)
