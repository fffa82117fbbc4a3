-- `tiles_quarter::rest::rest_zero` meets its contract: `zero` is true only where all elements passed are zero.
use mathlib.Core.List.{map}
use Rattle.tiles_quarter.proofs.RestLaws.{ZeroSoFar}
use Rattle.tiles_quarter.proofs.rest.rest_zero.Given as goal

abbrev pub invariant-loop-i : goal.invariant-loop-i
invariant-loop-i g l = ZeroSoFar (map g.T.Output.value l.x) l.from l.i l.zero
