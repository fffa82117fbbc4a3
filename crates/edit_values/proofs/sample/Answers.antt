-- `edit_values::sample` meets its contract: both stages, each a sum and its rounding shift.
use mir.Syntax.{w64}
use mathlib.Core.Path.{◌≡◌, ◌∙◌}
use borrow.Author.Rules.{sfits_of}
use Rattle.integers.proofs.MachineLaws.{round_trip}
use Rattle.edit_values.specs.Sample.{stage_one_by, sample_by}
use Rattle.edit_values.proofs.ProbeLaws.{entry-one_fits, entry_two_fits, rest_one_fits, rest_two_fits}
use Rattle.edit_values.proofs.sample.Goals as goal
use Rattle.edit_values.proofs.sample.Goals.{After-stage_one-between}

between_is : (c : After-stage_one-between) → let a = c.args in c.stage_one-between.result ≡ stage_one_by a.p a.value
unfolding stage_one_by
between_is c =
    let m = c in
    let s = m in
    c.stage_one-between.ensures.0
    ∙ rw (round_trip (sfits_of m.mac.type_inv), m.mac.ensures.0, round_trip (rest_one_fits s.requires.0), round_trip (entry-one_fits s.requires.0), round_trip s.ranges.value)

pub returns : goal.returns
unfolding sample_by
returns c =
    let m = c in
    let d = m in
    let s = d in
    round_trip {w = w64} (sfits_of c.round_shift.type_inv) ∙ c.round_shift.ensures
    ∙ rw (round_trip (sfits_of m.mac-2.type_inv), m.mac-2.ensures.0, round_trip (rest_two_fits s.requires.0), round_trip (entry_two_fits s.requires.0), round_trip (sfits_of d.stage_one-between.type_inv), between_is (goal.at.returns c).After-stage_one-between)
