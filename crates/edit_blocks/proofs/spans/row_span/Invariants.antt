-- `edit_blocks::spans::row_span` meets its contract: the places that are left hit the samples passed, and no other place does.
use Prim.Native.Nat.{◌+◌, ◌*◌, ◌≤◌}
use Rattle.edit_blocks.specs.Work.{hits_of, Sieved}
use Rattle.edit_blocks.proofs.spans.row_span.Given as goal

abbrev pub invariant-loop-j : goal.invariant-loop-j
invariant-loop-j l = let x = l.search in (l.j ≤ x.n) × Sieved x.range (hits_of x l.k l.c) (l.m * x.n) (l.m * x.n + l.j) l.initial.left.from l.initial.left.to l.left
