-- `edit_blocks::spans::all_indices` meets its contract: the loop has stored the ends of the indices passed.
use Prim.Native.Nat.{◌*◌, ◌≤◌}
use Rattle.integers.proofs.ListsLaws.{Stored}
use Rattle.edit_blocks.specs.Work.{tables_of, least_by, most_by}
use Rattle.edit_blocks.proofs.spans.all_indices.Given as goal

abbrev pub invariant-loop-i : goal.invariant-loop-i
invariant-loop-i l = let x = l.search in let a = tables_of x in
    (l.i ≤ x.n * x.n) × Stored (least_by a x.wanted.now x.n x.range x.shift) l.initial.least l.i l.least × Stored (most_by a x.wanted.now x.n x.range x.shift) l.initial.most l.i l.most
