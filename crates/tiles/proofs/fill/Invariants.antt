-- `tiles::fill` meets its contract: the places passed hold v.
use Rattle.std.specs.Prelude.{map}
use Rattle.integers.proofs.ListsLaws.{Stored}
use Rattle.tiles.proofs.fill.Given as goal

abbrev pub invariant-loop-i : goal.invariant-loop-i
invariant-loop-i g l = Stored (λ k. g.T.Output.value l.v) (map g.T.Output.value l.initial.out) l.i (map g.T.Output.value l.out)
