-- `level_search::nearest::side_end` meets its contract: the size of the range's end.
use mathlib.Core.Path.{◌∙◌}
use mir.Syntax.{w64}
use Rattle.integers.proofs.MachineLaws.{round_trip}
use Rattle.integers.proofs.BoundLaws.{within_fits}
use Rattle.level_search.proofs.NearestLaws.{side_end_below, side_end_above}
use Rattle.level_search.proofs.nearest.side_end.Goals as goal

pub returns-then-x-lt0 : goal.returns-then-x-lt0
returns-then-x-lt0 c =
    (rw (round_trip (within_fits {w = w64} tt c.requires.manageable.least)) at c.unsigned_abs.ensures.value)
    ∙ side_end_below c.args.by c.args.x (rw (round_trip c.ranges.x) at c.if-x-lt0.true)

pub returns : goal.returns
returns c =
    (rw (round_trip (within_fits {w = w64} tt c.requires.manageable.most)) at c.unsigned_abs-2.ensures.value)
    ∙ side_end_above c.args.by c.args.x (rw (round_trip c.ranges.x) at c.if-x-lt0.false)
