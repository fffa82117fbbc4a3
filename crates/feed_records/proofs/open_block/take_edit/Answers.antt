-- `feed_records::open_block::take_edit` meets its contract: without an open block it is refused; else it is the level edit's own.
use Rattle.std.proofs.Common.{◌≡◌, rules, Err}
use native.Mathlib.Omega.{arith}
use borrow.Author.Rules.{sfits_of}
use Rattle.integers.proofs.MachineLaws.{round_trip}
use Rattle.refusal.specs.declared.Refusal.TheVariants.{BlockMissing}
use Rattle.block_rules.specs.Edit.{buffers}
use Rattle.block_rules.specs.Level.{level_edited, LevelEdits}
use Rattle.feed_format.specs.Format.{edit_row, edit_column, edit_level}
use Rattle.feed_state.specs.Buffers.{Lent, lent}
use Rattle.feed_state.proofs.StateLaws.{none_said, quiet_kept}
use Rattle.feed_records.proofs.HeldLaws.{edit-closed, edit_kept, edit_moved}
use Rattle.feed_records.proofs.open_block.take_edit.Goals as goal
use Rattle.feed_records.proofs.open_block.take_edit.Goals.{After-edit_level, Start}

abbrev lent_at : Start → Lent
lent_at s = lent s.args.levels.now s.args.coeff.now s.args.inter.now s.args.residual.now

pub returns-in_err-held : goal.returns-in_err-held
returns-in_err-held c =
    let k = (goal.at.returns-in_err-held c).Start in
    let told : c.from_residual.result ≡ Err c.in_err-held.field-0.0 = search rules in
    let why = none_said _ BlockMissing _ c.in_err-held.ensures.value in
    rw (told, why.1, edit-closed c.args.s (lent_at k) c.args.body.now why.0) (quiet_kept c.args.s BlockMissing c.args.at _ (omega arith) (omega arith))

-- what was edited, by what the body says
edited : (k : After-edit_level)
    → let a = k.args in
    LevelEdits (level_edited k.in_ok-held.held a.levels.now (buffers a.coeff.now a.inter.now a.residual.now) (edit_row a.body.now) (edit_column a.body.now) (edit_level a.body.now)) k.edit_level.result k.edit_level.new.block
    k.edit_level.new.levels k.edit_level.new.coeff k.edit_level.new.inter k.edit_level.new.residual
edited k =
    rw (round_trip (sfits_of k.edit_level-level.type_inv), k.edit_level-level.ensures, k.from-column.ensures, k.from-row.ensures) at k.edit_level.ensures

pub returns : goal.returns
returns c =
    let k = goal.at.returns c in
    rw (c.with_open.ensures, c.body_length.ensures)
    (edit_moved c.args.s (lent_at k.Start) c.args.body.now c.args.at c.in_ok-held.held c.in_ok-held.ensures.ok_part (edited k.After-edit_level) _ c.in_ok-edit_level.was (omega arith))

pub returns-in_err-edit_level : goal.returns-in_err-edit_level
returns-in_err-edit_level c =
    let k = goal.at.returns-in_err-edit_level c in
    let told : c.from_residual-in_err-edit_level.result ≡ Err c.in_err-edit_level.field-0.0 = search rules in
    rw told
    (edit_kept c.args.s (lent_at k.Start) c.args.body.now c.args.at c.in_ok-held.held c.in_ok-held.ensures.ok_part (edited k.After-edit_level) _ c.in_err-edit_level.was
    (quiet_kept c.args.s _ c.args.at _ (omega arith) (omega arith)))
