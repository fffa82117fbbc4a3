-- `picture::refuse::check_each` meets its contract. The loop's invariant: no sample before i is above the largest.
use lib.Dec.{ltb}
use lib.ListN.{get_or}
use Rattle.integers.proofs.SearchLaws.{None}
use Rattle.picture.proofs.refuse.check_each.Given as goal

abbrev pub invariant-loop-i : goal.invariant-loop-i
invariant-loop-i l = None (λ k. ltb l.top (get_or l.samples k 0)) l.i
