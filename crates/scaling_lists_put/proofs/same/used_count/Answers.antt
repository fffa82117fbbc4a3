-- `scaling_lists_put::same::used_count` meets its contract.
use borrow.Author.Tests.{eq-eqb, ne_eqb}
use native.Mathlib.Omega.{arith}
use Rattle.scaling_lists_codes.specs.Syntax.{size_id}
use Rattle.scaling_lists_written.specs.Same.{used_count}
use Rattle.scaling_lists_put.proofs.same.used_count.Goals as goal

pub returns-then-j-eq0 : goal.returns-then-j-eq0
unfolding used_count size_id
returns-then-j-eq0 c = (rw (eq-eqb _ 0 c.if-j-eq0.true), omega arith)

pub returns-else-j-eq0 : goal.returns-else-j-eq0
unfolding used_count size_id
returns-else-j-eq0 c = (rw (ne_eqb _ 0 c.if-j-eq0.false), omega arith)
