-- `edited_list::open_levels_and_edit` meets its contract: the opening and the edits after it are what `listed` says.
use mathlib.Core.List.{List}
use Prim.Native.Nat.{ℕ}
use lib.ListN.{length}
use Rattle.scaling_values.specs.Given.{list_of}
use Rattle.block_rules.specs.Edit.{Buffers, buffers}
use Rattle.block_rules.specs.Opening.{Opening}
use Rattle.block_rules.specs.Level.{on_levels_by}
use Rattle.edited_history.specs.History.{Edit}
use Rattle.edited_history.specs.Run.{held_opened}
use Rattle.edited_steps.specs.Steps.{Slices, slices, edit_count, edits_of}
use Rattle.edited_list.proofs.ListedLaws.{lists_given}
use Rattle.edited_list.proofs.open_levels_and_edit.Goals as goal
use Rattle.edited_list.proofs.open_levels_and_edit.Goals.{Start}

abbrev opening : Start → Opening
opening s = on_levels_by s.args.kind s.args.n s.args.precision.bit_depth s.args.precision.extended s.args.qp_prime.0 (list_of s.args.list)

abbrev lent : Start → Buffers
lent s = buffers s.args.coeff.now s.args.inter.now s.args.residual.now

-- the slices for answers
abbrev told : Start → Slices
told s = slices s.args.numbers.now s.args.named.now s.args.across.now s.args.limits.now

abbrev count : Start → ℕ
count s = edit_count (length s.args.rows.now) (length s.args.columns.now) (length s.args.values.now) (length s.args.ways.now) (told s)

abbrev edits : Start → List Edit
edits s = edits_of (count s) s.args.rows.now s.args.columns.now s.args.values.now s.args.ways.now

pub returns : goal.returns
unfolding held_opened
returns c =
    lists_given (opening (goal.at.returns c).Start) c.args.levels.now (lent (goal.at.returns c).Start) (edits (goal.at.returns c).Start) (told (goal.at.returns c).Start) c.open_levels-opened.result c.edit_after.result c.open_levels-opened.new.coeff c.open_levels-opened.new.inter c.open_levels-opened.new.residual _ _ _ _ _
    c.open_levels-opened.ensures c.edit_after.ensures
