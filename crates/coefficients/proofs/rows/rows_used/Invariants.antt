-- `coefficients::rows::rows_used` meets its contract: the rows passed, from the last one up, are zero.
use Rattle.coefficients.specs.Rows.{RowsUsed}
use Rattle.coefficients.proofs.rows.rows_used.Given as goal

abbrev pub invariant-loop-k : goal.invariant-loop-k
invariant-loop-k l = RowsUsed l.coeff l.n l.nx l.k
