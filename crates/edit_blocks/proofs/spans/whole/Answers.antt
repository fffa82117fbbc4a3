-- `edit_blocks::spans::whole` meets its contract: 32 bits hold how many places the range has.
use mathlib.Core.Path.{refl}
use native.Mathlib.Omega.{arith}
use Rattle.edit_blocks.proofs.ProbeLaws.{count_bound, count_wraps}
use Rattle.edit_blocks.proofs.spans.whole.Goals as goal

pub invariant_of-result : goal.invariant_of-result
invariant_of-result c = record { inside = omega (arith, count_wraps c.args.range c.requires, count_bound c.args.range c.requires) }

pub returns : goal.returns
returns c = (refl, count_wraps c.args.range c.requires)
