-- `edit_values::past` meets its contract: the sample at the place, and the test of the order in the sample's direction.
use mathlib.Core.Path.{◌≡◌, ap, ◌∙◌}
use mathlib.Core.Bool.{not}
use borrow.Author.Rules.{sfits_of}
use Rattle.integers.proofs.MachineLaws.{round_trip}
use Rattle.edit_values.specs.Values.{value_at}
use Rattle.edit_values.specs.Sample.{sample_by, past}
use Rattle.edit_values.proofs.ProbeLaws.{target_fits}
use Rattle.edit_values.proofs.past.Goals as goal
use Rattle.edit_values.proofs.past.Goals.{After-sample-x}

sample_is : (c : After-sample-x) → let a = c.args in c.sample-x.result ≡ sample_by a.p (value_at a.p.range a.place)
sample_is c =
    let v = c in
    rw (round_trip (sfits_of v.value_at.type_inv), v.value_at.ensures.0) at c.sample-x.ensures

pub returns-then-strict : goal.returns-then-strict
unfolding past
returns-then-strict c =
    let f = c in
    let x = f in
    let s = x in
    c.before-then-strict.ensures
    ∙ rw (f.falls.ensures, round_trip (target_fits s.requires.0), round_trip (sfits_of x.sample-x.type_inv), sample_is (goal.at.returns-then-strict c).After-sample-x, f.if-strict.true)

pub returns : goal.returns
unfolding past
returns c =
    let f = c in
    let x = f in
    let s = x in
    ap not c.before-2.ensures
    ∙ rw (f.falls-2.ensures, round_trip (target_fits s.requires.0), round_trip (sfits_of x.sample-x.type_inv), sample_is (goal.at.returns c).After-sample-x, f.if-strict.false)
