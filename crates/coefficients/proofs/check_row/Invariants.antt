-- `coefficients::check_row` meets its contract. The loop's invariant: no coefficient before the column lies outside the range.
use lib.IntN.{pos}
use lib.ListN.{get_or}
use Rattle.integers.proofs.SearchLaws.{None}
use Rattle.h265.specs.Range.{outside_range}
use Rattle.coefficients.proofs.check_row.Given as goal

abbrev pub invariant-loop-column : goal.invariant-loop-column
invariant-loop-column l = None (λ i. outside_range l.range (get_or l.row i (pos 0))) l.column
