-- `level_edits::places::beyond` meets its contract: the level at the place is scaled and compared with the end.
use borrow.Author.Rules.{sfits_of}
use mathlib.Core.Path.{◌≡◌, ap, ◌∙◌}
use mir.Syntax.{w32, w64}
use mir.Val.{SFits, to_z, of_z}
use Rattle.integers.proofs.MachineLaws.{round_trip}
use Rattle.integers.proofs.BoundLaws.{within_fits}
use Rattle.scaling_values.specs.Level.{listed_level}
use Rattle.edit_values.specs.Values.{value_at}
use Rattle.level_search.proofs.NearestLaws.{le_is}
use Rattle.level_edits.specs.Work.{beyond}
use Rattle.level_edits.proofs.places.beyond.Goals as goal
use Rattle.level_edits.proofs.places.beyond.Goals.{After-scaled_value-x}

value_is : (c : After-scaled_value-x) → let a = c.args in c.scaled_value-x.result ≡ listed_level a.by a.m (value_at a.range a.place)
value_is c =
    let a = c.args in
    let f : SFits w32 (to_z w64 (of_z w64 c.value_at.result)) = rw (round_trip (sfits_of c.value_at.type_inv)) (within_fits {b = 12582912} tt c.value_at.ensures.1) in
    c.scaled_value-x.ensures ∙ ap (listed_level a.by a.m) (round_trip f ∙ round_trip {w = w64} (sfits_of c.value_at.type_inv) ∙ c.value_at.ensures.0)

pub returns-then-strict : goal.returns-then-strict
unfolding beyond
returns-then-strict c =
    rw (round_trip c.ranges.end, round_trip (sfits_of c.scaled_value-x.type_inv), value_is (goal.at.returns-then-strict c).After-scaled_value-x, c.if-strict.true)

pub returns : goal.returns
unfolding beyond
returns c =
    rw (round_trip c.ranges.end, round_trip (sfits_of c.scaled_value-x.type_inv), value_is (goal.at.returns c).After-scaled_value-x, c.if-strict.false) (le_is c.args.end (listed_level c.args.by c.args.m (value_at c.args.range c.args.place)))
