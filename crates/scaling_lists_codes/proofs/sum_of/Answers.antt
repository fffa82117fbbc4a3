-- `scaling_lists_codes::sum_of` meets its contract: a negative number in the range is no larger than what it is added to.
use mathlib.Core.Path.{sym}
use Rattle.scaling_lists_codes.proofs.ValueLaws.{added_odd, added_even, even_inside}
use Rattle.scaling_lists_codes.proofs.sum_of.Goals as goal

pub overflow_sub-result : goal.overflow_sub-result
overflow_sub-result c = let a = c.args in even_inside a.number a.n 255 c.if-number-eq1.false c.requires.1

pub returns-then-number-eq1 : goal.returns-then-number-eq1
returns-then-number-eq1 c = let a = c.args in sym (added_odd a.number a.n c.if-number-eq1.true)

pub returns-else-number-eq1 : goal.returns-else-number-eq1
returns-else-number-eq1 c = let a = c.args in sym (added_even a.number a.n c.if-number-eq1.false)
