-- `edit_blocks::spans::index_span` meets its contract: the places that are left hit the samples of the rows passed, and no other place does.
use Prim.Native.Nat.{◌*◌, ◌≤◌}
use Rattle.edit_values.specs.Values.{value_count}
use Rattle.edit_blocks.specs.Work.{hits_of, Sieved}
use Rattle.edit_blocks.proofs.spans.index_span.Given as goal

abbrev pub invariant-loop-m : goal.invariant-loop-m
invariant-loop-m l = let x = l.search in (l.m ≤ x.n) × Sieved x.range (hits_of x l.k l.c) 0 (l.m * x.n) 0 (value_count x.range) l.left
