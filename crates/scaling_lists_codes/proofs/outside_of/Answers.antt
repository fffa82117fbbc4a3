-- `scaling_lists_codes::outside_of` meets its contract: an odd number stands for a positive one, an even number for its negation.
use mathlib.Core.Path.{sym}
use Rattle.scaling_lists_codes.proofs.ValueLaws.{outside_odd, outside_even}
use Rattle.scaling_lists_codes.proofs.outside_of.Goals as goal

pub returns-then-number-eq1 : goal.returns-then-number-eq1
returns-then-number-eq1 c = let a = c.args in sym (outside_odd a.number a.low a.high c.if-number-eq1.true)

pub returns-else-number-eq1 : goal.returns-else-number-eq1
returns-else-number-eq1 c = let a = c.args in sym (outside_even a.number a.low a.high c.if-number-eq1.false)
