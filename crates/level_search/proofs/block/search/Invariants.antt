-- `level_search::block::search` meets its contract. The loop's invariant: every coefficient before i has a level, and the first i places hold them.
use Prim.Native.Nat.{◌*◌, ◌≤◌}
use Rattle.integers.proofs.ListsLaws.{Stored}
use Rattle.integers.proofs.SearchLaws.{None}
use Rattle.scaling_values.specs.Given.{list_of}
use Rattle.level_search.specs.Work.{nearest_at, misses_at}
use Rattle.level_search.proofs.block.search.Given as goal

abbrev pub invariant-loop-i : goal.invariant-loop-i
invariant-loop-i l = (l.i ≤ l.n * l.n) × None (misses_at l.by (list_of l.list) l.n l.coeff) l.i × Stored (nearest_at l.by (list_of l.list) l.n l.coeff) l.initial.found l.i l.found
