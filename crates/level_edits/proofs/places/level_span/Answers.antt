-- `level_edits::places::level_span` meets its contract: no range has more places than a span may end at.
use native.Mathlib.Omega.{arith}
use Rattle.edit_blocks.proofs.ProbeLaws.{count_bound}
use Rattle.level_edits.proofs.places.level_span.Goals as goal

pub invariant_of-result : goal.invariant_of-result
invariant_of-result c = record { inside = omega (arith, c.first_beyond-to.ensures.most, count_bound c.args.range c.requires.1) }
