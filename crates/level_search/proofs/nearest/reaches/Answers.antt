-- `level_search::nearest::reaches` meets its contract: the level of the size is scaled, and the test is the side's.
use mathlib.Core.Path.{◌≡◌}
use mir.Syntax.{w32}
use mir.Val.{SFits}
use Rattle.integers.proofs.MachineLaws.{round_trip}
use Rattle.integers.proofs.BoundLaws.{within_fits}
use Rattle.scaling_values.specs.Level.{listed_level}
use Rattle.level_search.specs.Work.{sided}
use Rattle.level_search.proofs.NearestLaws.{sided_within, scaled_fits, reaches_below_is, reaches_above_is}
use Rattle.level_search.proofs.nearest.reaches.Goals as goal
use Rattle.level_search.proofs.nearest.reaches.Goals.{After-scaled_listed-scaled}

value_is : (c : After-scaled_listed-scaled)
    → let a = c.args in c.scaled_listed-scaled.result.value ≡ listed_level a.by a.m (sided a.x a.size)
value_is c =
    let s = c in
    let a = s.args in
    rw (rw (round_trip s.ranges.x) at c.sided.ensures, round_trip (within_fits {w = w32} tt (sided_within a.x a.size s.requires.size_bound))) at c.scaled_listed-scaled.ensures.value

value_fits : (c : After-scaled_listed-scaled) → SFits w32 c.scaled_listed-scaled.result.value
value_fits c =
    let s = c in
    scaled_fits s.args.m (sided s.args.x s.args.size) s.requires.manageable (value_is c)

pub returns-then-x-lt0 : goal.returns-then-x-lt0
returns-then-x-lt0 c =
    let d = c in
    let s = d in
    let a = s.args in
    rw (round_trip s.ranges.x, round_trip (value_fits (goal.at.returns-then-x-lt0 c).After-scaled_listed-scaled), value_is (goal.at.returns-then-x-lt0 c).After-scaled_listed-scaled)
    (reaches_below_is a.x a.size (listed_level a.by a.m) (rw (round_trip s.ranges.x) at c.if-x-lt0.true))

pub returns : goal.returns
returns c =
    let d = c in
    let s = d in
    let a = s.args in
    rw (round_trip s.ranges.x, round_trip (value_fits (goal.at.returns c).After-scaled_listed-scaled), value_is (goal.at.returns c).After-scaled_listed-scaled)
    (reaches_above_is a.x a.size (listed_level a.by a.m) (rw (round_trip s.ranges.x) at c.if-x-lt0.false))
