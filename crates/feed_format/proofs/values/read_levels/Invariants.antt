-- `feed_format::values::read_levels` meets its contract: the first i levels are stored.
use Rattle.integers.proofs.ListsLaws.{Stored}
use Rattle.feed_format.specs.Format.{level_at}
use Rattle.feed_format.proofs.values.read_levels.Given as goal

abbrev pub invariant-loop-i : goal.invariant-loop-i
invariant-loop-i l = Stored (level_at l.body) l.initial.levels l.i l.levels
