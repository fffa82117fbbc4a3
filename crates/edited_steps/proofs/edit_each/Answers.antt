-- `edited_steps::edit_each` meets its contract: what is left of the run at the loop's head ends as the whole run does.
use mathlib.Core.Path.{◌≡◌}
use Rattle.std.proofs.Common.{rules}
use lib.IntN.{pos}
use lib.ListN.{get_or}
use mir.Syntax.{w32}
use mir.Val.{to_z, of_z}
use mir.ValLaws.{to_z-of_z}
use Rattle.edited_steps.specs.Steps.{edit_at}
use Rattle.edited_steps.proofs.GoingLaws.{going_on, going_ends, edits_of-length, edits_of-get_or}
use Rattle.edited_steps.proofs.edit_each.Goals as goal

pub loop-i-preserved : goal.loop-i-preserved
loop-i-preserved c =
    let called = c in
    let r = called.edit_one-given in
    let at = called in
    let a = at.args in
    let h = called.loop-i-test.true in
    let z = get_or a.values.now at.loop-i.i (pos 0) in
    let v : to_z w32 (of_z w32 z) ≡ z = to_z-of_z w32 z (search rules) in
    going_on at.loop-i.invariant (edit_at a.rows.now a.columns.now a.values.now a.ways.now at.loop-i.i)
    (rw edits_of-length h) (edits_of-get_or a.count a.rows.now a.columns.now a.values.now a.ways.now at.loop-i.i h)
    r.result r.new.block r.new.levels r.new.coeff r.new.inter r.new.residual (rw v at r.ensures)
    r.auto.levels r.auto.coeff r.auto.inter r.auto.residual _ c.put_answer.ensures

pub returns : goal.returns
returns c =
    going_ends c.loop-i.invariant (rw edits_of-length c.loop-i-test.false)
