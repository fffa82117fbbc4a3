-- `coefficients::all_inside` meets its contract. The loop's invariant: the bits gathered reach every coefficient passed.
use Rattle.coefficients.proofs.OutsideLaws.{AllReach}
use Rattle.coefficients.proofs.all_inside.Given as goal

abbrev pub invariant-loop-x : goal.invariant-loop-x
invariant-loop-x l = AllReach l.range l.coeff l.x-index l.bits
