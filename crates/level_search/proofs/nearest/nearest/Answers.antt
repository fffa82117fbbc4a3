-- `level_search::nearest::nearest` meets its contract: the level of the size that was found.
use mathlib.Core.Path.{ap, ◌∙◌}
use mir.Syntax.{w32}
use Rattle.integers.proofs.MachineLaws.{round_trip, round_trip_ok}
use Rattle.scaling_values.specs.Level.{listed_level}
use Rattle.level_search.specs.Work.{sided, nearest}
use Rattle.level_search.proofs.NearestLaws.{nearest_size_bound}
use Rattle.level_search.proofs.nearest.nearest.Goals as goal

pub sided-requires : goal.sided-requires
sided-requires c =
    let s = c in
    let e = rw (round_trip s.ranges.x) at c.nearest_size.ensures in
    rw e (nearest_size_bound s.args.by s.args.x (listed_level s.args.by s.args.m) s.requires.manageable)

pub returns : goal.returns
unfolding nearest
returns c =
    let d = c in
    let s = d in
    round_trip_ok w32 c.sided.result c.sided.type_inv
    ∙ (rw (round_trip s.ranges.x) at c.sided.ensures) ∙ ap (sided s.args.x) (rw (round_trip s.ranges.x) at d.nearest_size.ensures)
