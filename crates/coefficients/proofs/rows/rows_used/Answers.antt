-- `coefficients::rows::rows_used` meets its contract: the rows passed, from the last one up, are zero.
use native.Mathlib.Omega.{arith}
use Rattle.std.proofs.Common.{rules}
use Rattle.coefficients.proofs.RowsLaws.{row_before}
use Rattle.coefficients.proofs.rows.rows_used.Goals as goal

pub loop-k-preserved : goal.loop-k-preserved
loop-k-preserved c = row_before c.requires.0 c.requires.1 (let h = c.loop-k-test.true in omega arith) c.loop-k.invariant (c.zero_run.ensures (search rules))
