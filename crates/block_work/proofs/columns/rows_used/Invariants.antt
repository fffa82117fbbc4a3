-- `block_work::columns::rows_used` meets its contract: the rows passed, from the last one up, are zero.
use Rattle.coefficients.specs.Rows.{RowsUsed}
use Rattle.block_work.proofs.columns.rows_used.Given as goal

abbrev pub invariant-loop-k : goal.invariant-loop-k
invariant-loop-k l = RowsUsed l.coeff l.n l.n l.k
