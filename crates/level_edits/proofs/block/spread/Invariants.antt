-- `level_edits::block::spread` meets its contract: the loop has stored the ends of the indices passed.
use mathlib.Core.Path.{◌≡◌}
use Prim.Native.Nat.{◌*◌, ◌≤◌}
use lib.IntN.{pos}
use lib.ListN.{get_or}
use Rattle.integers.proofs.ListsLaws.{Stored}
use Rattle.level_search.specs.Work.{scaling_by}
use Rattle.level_edits.specs.Work.{least_scaling, most_scaling}
use Rattle.scaling_values.specs.Given.{list_of}
use Rattle.level_edits.proofs.block.spread.Given as goal

abbrev pub invariant-loop-i : goal.invariant-loop-i
invariant-loop-i l = (l.i ≤ l.n * l.n) × (l.count ≡ l.n * l.n)
    × Stored (λ k. least_scaling (scaling_by l.by (list_of l.list) l.n k) l.range (get_or l.low k (pos 0)) (get_or l.high k (pos 0))) l.initial.least l.i l.least
    × Stored (λ k. most_scaling (scaling_by l.by (list_of l.list) l.n k) l.range (get_or l.low k (pos 0)) (get_or l.high k (pos 0))) l.initial.most l.i l.most
