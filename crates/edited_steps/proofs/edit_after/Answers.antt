-- `edited_steps::edit_after` meets its contract: a refused opening is handed on, and after another the edits are made.
use mathlib.Core.Path.{◌≡◌, refl}
use Rattle.std.proofs.Common.{rules, Err}
use Rattle.edited_steps.specs.Steps.{RunsGiven}
use Rattle.edited_steps.proofs.edit_after.Goals as goal

pub returns-in_err-opened : goal.returns-in_err-opened
unfolding RunsGiven
returns-in_err-opened c =
    let told : c.from_residual.result ≡ Err c.in_err-opened.field-0.0 = search rules in
    rw (c.in_err-opened.was, told) (refl, refl, refl, refl)

pub returns : goal.returns
unfolding RunsGiven
returns c = rw c.in_ok-opened.was c.edits_made.ensures
