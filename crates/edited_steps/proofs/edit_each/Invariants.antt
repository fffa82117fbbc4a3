-- `edited_steps::edit_each` meets its contract: what is left of the run at the loop's head ends as the whole run does.
use Rattle.block_rules.specs.Edit.{buffers}
use Rattle.edited_steps.specs.Steps.{slices, edits_of}
use Rattle.edited_steps.proofs.GoingLaws.{Going}
use Rattle.edited_steps.proofs.edit_each.Given as goal

abbrev pub invariant-loop-i : goal.invariant-loop-i
invariant-loop-i l = Going l.initial.block l.initial.levels (buffers l.initial.coeff l.initial.inter l.initial.residual) (edits_of l.count l.rows l.columns l.values l.ways) (slices l.initial.numbers l.initial.named l.initial.across l.initial.limits) l.levels l.coeff l.inter l.residual (slices l.numbers l.named l.across l.limits) l.block l.i
