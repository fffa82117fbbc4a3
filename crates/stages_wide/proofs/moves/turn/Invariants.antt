-- `stages_wide::moves::turn` meets its contract: the rows passed are stored.
use Prim.Native.Nat.{◌+◌, ◌*◌}
use lib.IntN.{pos}
use lib.ListN.{get_or}
use Rattle.std.specs.Prelude.{map}
use Rattle.transform_1d.specs.Rows.{Filled}
use Rattle.stages_wide.proofs.moves.turn.Given as goal

abbrev pub invariant-loop-c : goal.invariant-loop-c
invariant-loop-c g l = Filled l.n l.n (λ i k. get_or l.s (k * l.n + i) (pos 0)) l.c (map g.V.Output.value l.initial.g) (map g.V.Output.value l.g)
