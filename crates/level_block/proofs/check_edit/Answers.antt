-- `level_block::check_edit` meets its contract: the ladder, 10 and 8 stop the edit where `level_edited` has them.
use mathlib.Core.Path.{◌≡◌}
use mathlib.Core.Bool.{true}
use borrow.Author.Tests.{not-false, not-true}
use lib.ListN.{length}
use Rattle.std.specs.Prelude.{Result, Ok, Err}
use Rattle.std.proofs.Common.{rules}
use Rattle.integers.proofs.TestLaws.{neither}
use Rattle.refusal.specs.declared.Refusal.{Refusal}
use Rattle.refusal.specs.Condition.{block_refused}
use Rattle.block_rules.specs.Level.{looked_at}
use Rattle.block_rules.specs.Edit.{Buffers, buffers}
use Rattle.block_rules.specs.Work.{PlaceChecked}
use Rattle.block_laws.proofs.LevelLaws.{EditFits, levels_passed, level-edit-refused, level-edit_way, level-edit-place}
use Rattle.level_work.specs.Work.{LevelEditChecked}
use Rattle.level_block.proofs.check_edit.Goals as goal
use Rattle.level_block.proofs.check_edit.Goals.{In_ok-level_refusal, Start}

abbrev lent : Start → Buffers
lent s = buffers s.args.coeff.now s.args.inter.now s.args.residual.now

pub returns-in_err-level_refusal : goal.returns-in_err-level_refusal
returns-in_err-level_refusal c =
    let s = (goal.at.returns-in_err-level_refusal c).Start in
    let told : c.from_residual.result ≡ Err c.in_err-level_refusal.field-0.0 = search rules in
    rw told (λ level. level-edit-refused s.args.block s.args.levels.now (lent s) s.args.row s.args.column level c.in_err-level_refusal.field-0.0 (rw c.looked_at-held.ensures at c.in_err-level_refusal.ensures))

-- no condition of the ladder holds
fits : (c : In_ok-level_refusal) → EditFits c.args.block c.args.levels.now (lent (goal.at.In_ok-level_refusal c).Start)
fits c =
    levels_passed c.args.block.kind c.args.block.size c.args.block.precision.bit_depth 64 (looked_at c.args.block.source.levels (length c.args.levels.now) (length c.args.coeff.now)) (length c.args.coeff.now) (length c.args.inter.now) (length c.args.residual.now)
    (rw c.looked_at-held.ensures at c.in_ok-level_refusal.ensures)

pub returns-in_err-check : goal.returns-in_err-check
returns-in_err-check c =
    let s = (goal.at.returns-in_err-check c).Start in
    let told : c.from_residual-in_err-check.result ≡ Err c.in_err-check.field-0.0 = search rules in
    rw (told, c.in_err-check.ensures.1)
    (λ level. level-edit_way s.args.block s.args.levels.now (lent s) s.args.row s.args.column level (fits (goal.at.returns-in_err-check c).In_ok-level_refusal) (not-true s.args.block.source.levels c.in_err-check.ensures.0))

pub returns : goal.returns
returns c = by_place c.check_place.result c.check_place.ensures
  where
    s : Start
    s = (goal.at.returns c).Start

    f : EditFits s.args.block s.args.levels.now (lent s)
    f = fits (goal.at.returns c).In_ok-level_refusal

    way : s.args.block.source.levels ≡ true
    way = not-false s.args.block.source.levels c.in_ok-check.ensures

    by_place : (r : Result (Unit {0}) Refusal) → PlaceChecked s.args.block.size s.args.row s.args.column r
        → LevelEditChecked s.args.block s.args.levels.now (lent s) s.args.row s.args.column r
    by_place (Ok u) h =
        let input = neither (block_refused s.args.block.size (looked_at s.args.block.source.levels (length s.args.levels.now) (length s.args.coeff.now))) (block_refused s.args.block.size (length s.args.coeff.now)) f.input in
        let work = neither (block_refused s.args.block.size (length s.args.inter.now)) (block_refused s.args.block.size (length s.args.residual.now)) f.work in
        record { size = f.size; depth = f.depth; dst = f.dst; held = input.0; coeff = input.1; inter = work.0; res = work.1; way = way; row = h.1; column = h.2 }
    by_place (Err e) h = rw h.1 (λ level. level-edit-place s.args.block s.args.levels.now (lent s) s.args.row s.args.column level f way h.0)
