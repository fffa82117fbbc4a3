-- `edited_steps::edit_one` meets its contract: by the kind of the edit.
use mathlib.Core.Path.{◌≡◌, refl, sym, ap, ◌∙◌}
use mir.Facts.{to_z-of_z}
use Rattle.std.proofs.Common.{rules, Err}
use Rattle.refusal.specs.Outcome.{answer}
use Rattle.block_rules.specs.Edit.{valued}
use Rattle.block_rules.specs.Level.{no_limits}
use Rattle.edited_history.specs.Run.{held_edited}
use Rattle.edited_steps.proofs.edit_one.Goals as goal

pub returns-then-level : goal.returns-then-level
unfolding held_edited
returns-then-level c = rw c.if-level.true (rw (to_z-of_z c.ranges.value) at c.edit_level.ensures)

pub returns-in_err-edit : goal.returns-in_err-edit
unfolding held_edited
returns-in_err-edit c =
    let told : c.from_residual.result ≡ Err c.in_err-edit.field-0.0 = search rules in
    let h = rw (to_z-of_z c.ranges.value) at c.edit.ensures in
    rw (told, c.if-level.false)
    (record { answered = ap (valued no_limits) (ap answer (sym c.in_err-edit.was) ∙ h.answered); block = h.block; levels = refl; coeff = h.coeff; inter = h.inter; res = h.res })

pub returns : goal.returns
unfolding held_edited
returns c =
    let h = rw (to_z-of_z c.ranges.value) at c.edit.ensures in
    rw c.if-level.false
    (record { answered = ap (valued no_limits) (ap answer (sym c.in_ok-edit.was) ∙ h.answered); block = h.block; levels = refl; coeff = h.coeff; inter = h.inter; res = h.res })
