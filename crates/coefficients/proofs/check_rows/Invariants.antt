-- `coefficients::check_rows` meets its contract. The loop's invariant: no coefficient of the rows before k lies outside the range.
use Prim.Native.Nat.{◌*◌}
use Rattle.integers.proofs.SearchLaws.{None}
use Rattle.coefficients.specs.Outside.{outside_at}
use Rattle.coefficients.proofs.check_rows.Given as goal

abbrev pub invariant-loop-k : goal.invariant-loop-k
invariant-loop-k l = None (outside_at l.range l.n l.nx l.coeff) (l.k * l.n)
