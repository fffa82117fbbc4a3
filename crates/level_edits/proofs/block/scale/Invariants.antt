-- `level_edits::block::scale` meets its contract: the loop has stored the coefficients of the levels passed.
use mathlib.Core.Path.{◌≡◌}
use Prim.Native.Nat.{◌*◌, ◌≤◌}
use lib.IntN.{pos}
use lib.ListN.{get_or}
use Rattle.integers.proofs.ListsLaws.{Stored}
use Rattle.level_search.specs.Work.{scaling_by}
use Rattle.scaling_values.specs.Given.{list_of}
use Rattle.level_edits.proofs.block.scale.Given as goal

abbrev pub invariant-loop-i : goal.invariant-loop-i
invariant-loop-i l = (l.i ≤ l.n * l.n) × (l.count ≡ l.n * l.n) × Stored (λ k. scaling_by l.by (list_of l.list) l.n k (get_or l.levels k (pos 0))) l.initial.out l.i l.out
