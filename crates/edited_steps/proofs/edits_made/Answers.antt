-- `edited_steps::edits_made` meets its contract: the loop makes every edit.
use mathlib.Core.Path.{sym, ◌∙◌}
use mathlib.Core.List.{List}
use Prim.Native.Nat.{ℕ}
use lib.ListN.{length}
use Rattle.block_rules.specs.Edit.{Buffers, buffers}
use Rattle.edited_history.specs.History.{Edit}
use Rattle.edited_steps.specs.Steps.{Slices, slices, edit_count, edits_of}
use Rattle.edited_steps.proofs.GoingLaws.{edits_of-length}
use Rattle.edited_steps.proofs.StepsLaws.{count_ask, runs_all}
use Rattle.edited_steps.proofs.edits_made.Goals as goal
use Rattle.edited_steps.proofs.edits_made.Goals.{Start}

abbrev lent : Start → Buffers
lent s = buffers s.args.coeff.now s.args.inter.now s.args.residual.now

-- the slices for answers
abbrev told : Start → Slices
told s = slices s.args.numbers.now s.args.named.now s.args.across.now s.args.limits.now

abbrev count : Start → ℕ
count s = edit_count (length s.args.rows.now) (length s.args.columns.now) (length s.args.values.now) (length s.args.ways.now) (told s)

abbrev edits : Start → List Edit
edits s = edits_of (count s) s.args.rows.now s.args.columns.now s.args.values.now s.args.ways.now

pub edit_each-requires : goal.edit_each-requires
edit_each-requires c =
    let s = c in
    rw c.edit_count-edits.ensures (count_ask (length s.args.rows.now) (length s.args.columns.now) (length s.args.values.now) (length s.args.ways.now) (told (goal.at.edit_each-requires c).Start))

pub returns : goal.returns
returns c =
    let s = c in
    let counted = c.edit_count-edits in
    runs_all s.args.opened s.args.levels.now (lent (goal.at.returns c).Start) (edits (goal.at.returns c).Start) (told (goal.at.returns c).Start) counted.result _ _ _ _ _ _
    (counted.ensures ∙ sym (edits_of-length (count (goal.at.returns c).Start) s.args.rows.now s.args.columns.now s.args.values.now s.args.ways.now)) (rw counted.ensures at c.edit_each.ensures)
