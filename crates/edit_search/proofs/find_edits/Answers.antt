-- `edit_search::find_edits` meets its contract: the refusals are the ladder's, then rows 9 and 19, and what passes them meets what the search asks.
use mathlib.Core.Path.{◌≡◌, sym, ap, ◌∙◌}
use native.Mathlib.Omega.{arith}
use lib.ListN.{length}
use Rattle.std.proofs.Common.{rules, Err}
use Rattle.h265.proofs.RangeLaws.{transform_range_most}
use Rattle.refusal.specs.Outcome.{answer}
use Rattle.refusal.proofs.ConditionLaws.{size_accepted, depth_accepted, block_room}
use Rattle.refusal.proofs.LadderLaws.{Passed}
use Rattle.edit_search.proofs.FoundLaws.{rungs, without_list, edits_refused, edits_passed, edits_outside, edits_done, edits_ask}
use Rattle.edit_search.proofs.find_edits.Goals as goal
use Rattle.edit_search.proofs.find_edits.Goals.{In_ok-edit_refusal}

-- no condition of the ladder holds
passed : (c : In_ok-edit_refusal)
    → let a = c.args in
    Passed (rungs a.kind a.n a.precision.bit_depth (length a.coeff.now) (length a.target.now) (length a.wanted.now) (length a.least.now) (length a.most.now))
passed c =
    let a = c.args in
    edits_passed a.kind a.n a.precision.bit_depth a.precision.extended a.coeff.now a.target.now a.wanted.now a.least.now a.most.now
    (ap answer (sym c.in_ok-edit_refusal.was) ∙ c.edit_refusal.ensures ∙ without_list _ _ _ _ _ _ _ _ _ _)

pub transform_range-range-requires : goal.transform_range-range-requires
transform_range-range-requires c = (depth_accepted c.args.precision.bit_depth (passed c).1.0).1

pub check_inside-requires : goal.check_inside-requires
check_inside-requires c =
    let a = c.args in
    let p = passed (goal.at.check_inside-requires c).In_ok-edit_refusal in (
      size_accepted a.n p.0,
      omega arith,
      block_room a.n _ p.1.1.1.0,
      rw c.transform_range-range.ensures (transform_range_most a.precision.bit_depth a.precision.extended (depth_accepted a.precision.bit_depth p.1.0).1),
    )

pub returns-in_err-check_inside : goal.returns-in_err-check_inside
returns-in_err-check_inside c =
    let a = c.args in
    let e = rw c.transform_range-range.ensures at c.in_err-check_inside.ensures in
    let told : c.from_residual-in_err-check_inside.result ≡ Err c.in_err-check_inside.field-0.0 = search rules in
    rw told
    (edits_outside a.kind a.n a.precision.bit_depth a.precision.extended a.coeff.now a.target.now a.wanted.now a.least.now a.most.now (passed (goal.at.returns-in_err-check_inside c).In_ok-edit_refusal) e.0 e.1)

pub find-requires : goal.find-requires
find-requires c =
    let a = c.args in
    edits_ask a.kind a.n a.precision.bit_depth a.precision.extended a.coeff.now a.target.now a.wanted.now a.least.now a.most.now (passed (goal.at.find-requires c).In_ok-edit_refusal)
    (rw c.transform_range-range.ensures at c.in_ok-check_inside.ensures)

pub returns : goal.returns
returns c =
    let a = c.args in
    edits_done a.kind a.n a.precision.bit_depth a.precision.extended a.coeff.now a.target.now a.wanted.now a.least.now a.most.now (passed (goal.at.returns c).In_ok-edit_refusal)
    (rw c.transform_range-range.ensures at c.in_ok-check_inside.ensures) c.find.ensures.0 c.find.ensures.1

pub returns-in_err-edit_refusal : goal.returns-in_err-edit_refusal
returns-in_err-edit_refusal c =
    let a = c.args in
    let told : c.from_residual.result ≡ Err c.in_err-edit_refusal.field-0.0 = search rules in
    rw told
    (edits_refused a.kind a.n a.precision.bit_depth a.precision.extended a.coeff.now a.target.now a.wanted.now a.least.now a.most.now c.in_err-edit_refusal.field-0.0 (ap answer (sym c.in_err-edit_refusal.was) ∙ c.edit_refusal.ensures ∙ without_list _ _ _ _ _ _ _ _ _ _))
