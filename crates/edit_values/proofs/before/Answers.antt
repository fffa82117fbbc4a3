-- `edit_values::before` meets its contract: each arm is a case of the definition.
use Rattle.integers.proofs.MachineLaws.{round_trip}
use Rattle.edit_values.specs.Sample.{before}
use Rattle.edit_values.proofs.before.Goals as goal

pub returns-then-falling : goal.returns-then-falling
unfolding before
returns-then-falling c = let f = c.ranges in rw (round_trip f.x, round_trip f.y, c.if-falling.true)

pub returns : goal.returns
unfolding before
returns c = let f = c.ranges in rw (round_trip f.x, round_trip f.y, c.if-falling.false)
