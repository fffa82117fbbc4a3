-- `scaling_lists_codes::matrix_step` meets its contract: three at 32×32, else one.
use native.Mathlib.Omega.{arith}
use borrow.Author.Tests.{eq-eqb, ne_eqb}
use Rattle.scaling_lists_codes.specs.Syntax.{matrix_step}
use Rattle.scaling_lists_codes.proofs.matrix_step.Goals as goal

pub returns-then-size_id-eq3 : goal.returns-then-size_id-eq3
unfolding matrix_step
returns-then-size_id-eq3 c = (rw (eq-eqb c.args.size_id 3 c.if-size_id-eq3.true), omega arith, omega arith)

pub returns-else-size_id-eq3 : goal.returns-else-size_id-eq3
unfolding matrix_step
returns-else-size_id-eq3 c = (rw (ne_eqb c.args.size_id 3 c.if-size_id-eq3.false), omega arith, omega arith)
