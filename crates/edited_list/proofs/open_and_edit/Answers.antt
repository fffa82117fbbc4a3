-- `edited_list::open_and_edit` meets its contract: the opening and the edits after it are what `listed` says.
use mathlib.Core.Path.{◌≡◌, refl}
use mathlib.Core.List.{List}
use Prim.Native.Nat.{ℕ}
use lib.ListN.{length}
use Rattle.std.proofs.Common.{rules, Ok, Err}
use Rattle.block_rules.specs.Edit.{Buffers, buffers}
use Rattle.block_rules.specs.Opening.{Opening, on_coefficients}
use Rattle.block_rules.specs.Level.{levels_opened}
use Rattle.edited_history.specs.History.{Edit}
use Rattle.edited_steps.specs.Steps.{Slices, slices, edit_count, edits_of}
use Rattle.edited_list.proofs.ListedLaws.{opens_held, opens_held-refused, lists-refused, lists_given}
use Rattle.edited_list.proofs.open_and_edit.Goals as goal
use Rattle.edited_list.proofs.open_and_edit.Goals.{Start}

abbrev opening : Start → Opening
opening s = on_coefficients s.args.kind s.args.n s.args.precision.bit_depth s.args.precision.extended

abbrev lent : Start → Buffers
lent s = buffers s.args.coeff.now s.args.inter.now s.args.residual.now

-- the slices for answers
abbrev told : Start → Slices
told s = slices s.args.numbers.now s.args.named.now s.args.across.now s.args.limits.now

abbrev count : Start → ℕ
count s = edit_count (length s.args.rows.now) (length s.args.columns.now) (length s.args.values.now) (length s.args.ways.now) (told s)

abbrev edits : Start → List Edit
edits s = edits_of (count s) s.args.rows.now s.args.columns.now s.args.values.now s.args.ways.now

pub returns-in_err-opening : goal.returns-in_err-opening
returns-in_err-opening c =
    let s = c in
    let is : c.from_residual.result ≡ Err c.in_err-opening.field-0.0 = search rules in
    rw is
    (lists-refused (opening (goal.at.returns-in_err-opening c).Start) s.args.levels.now (lent (goal.at.returns-in_err-opening c).Start) (edits (goal.at.returns-in_err-opening c).Start) (told (goal.at.returns-in_err-opening c).Start) c.in_err-opening.field-0.0 s.args.coeff.now c.open_block-opening.new.inter c.open_block-opening.new.residual
    (opens_held-refused (opening (goal.at.returns-in_err-opening c).Start) s.args.levels.now (lent (goal.at.returns-in_err-opening c).Start) c.open_block-opening.new.inter c.open_block-opening.new.residual refl c.in_err-opening.field-0.0 (rw c.in_err-opening.was at c.open_block-opening.ensures)))

pub returns : goal.returns
returns c =
    let s = c in
    lists_given (opening (goal.at.returns c).Start) s.args.levels.now (lent (goal.at.returns c).Start) (edits (goal.at.returns c).Start) (told (goal.at.returns c).Start) (Ok (levels_opened 0 c.in_ok-opening.field-0)) c.edit_after.result s.args.coeff.now c.open_block-opening.new.inter c.open_block-opening.new.residual _ _ _ _ _
    (opens_held (opening (goal.at.returns c).Start) s.args.levels.now (lent (goal.at.returns c).Start) c.open_block-opening.new.inter c.open_block-opening.new.residual refl c.in_ok-opening.field-0 (rw c.in_ok-opening.was at c.open_block-opening.ensures)) c.edit_after.ensures
