-- `level_edits::find_level_edits` meets its contract: the refusals are the ladder's, and the numbers of a block that passes it are not refused.
use mathlib.Core.Path.{◌≡◌, sym, ap, ◌∙◌}
use Rattle.std.proofs.Common.{rules, Err}
use Rattle.refusal.specs.Outcome.{answer}
use Rattle.scaling_values.specs.Given.{list_of, entries_of}
use Rattle.level_edits.proofs.FoundLaws.{rungs, level-refused, level_passed, level_done, level_ask, params_are, params_refused}
use lib.ListN.{length}
use Rattle.h265.specs.Range.{log2_size}
use Rattle.parameters.specs.Parameters.{dequant_of}
use Rattle.refusal.proofs.LadderLaws.{Passed}
use Rattle.level_edits.proofs.find_level_edits.Goals as goal
use Rattle.level_edits.proofs.find_level_edits.Goals.{In_ok-by, In_ok-edit_refusal}

-- no condition of the ladder holds
passed : (c : In_ok-edit_refusal)
    → let a = c.args in
    Passed (rungs a.kind a.n a.precision.bit_depth (entries_of (list_of a.list)) (length a.levels.now) (length a.target.now) (length a.wanted.now) (length a.least.now) (length a.most.now))
passed c =
    let a = c.args in
    level_passed (list_of a.list) a.kind a.n a.qp_prime.0 a.precision.bit_depth a.precision.extended a.levels.now a.target.now a.wanted.now a.least.now a.most.now (ap answer (sym c.in_ok-edit_refusal.was) ∙ (rw c.len.ensures at c.edit_refusal.ensures))

-- the numbers of the block
numbers : (c : In_ok-by)
    → let a = c.args in
    c.in_ok-by.by ≡ dequant_of (log2_size a.n) a.qp_prime.0 a.precision.bit_depth a.precision.extended
numbers c =
    let a = c.args in
    let p = passed (goal.at.In_ok-by c).In_ok-edit_refusal in
    params_are a.n a.qp_prime.0 a.precision.bit_depth a.precision.extended p.0 p.1.0 (rw c.in_ok-by.was at c.dequant_params.ensures)

pub find_block-requires : goal.find_block-requires
find_block-requires c =
    let a = c.args in
    level_ask (list_of a.list) a.kind a.n a.qp_prime.0 a.precision.bit_depth a.precision.extended a.levels.now a.target.now a.wanted.now a.least.now a.most.now (passed (goal.at.find_block-requires c).In_ok-edit_refusal) (numbers (goal.at.find_block-requires c).In_ok-by)

pub returns : goal.returns
returns c =
    let a = c.args in
    level_done (list_of a.list) a.kind a.n a.qp_prime.0 a.precision.bit_depth a.precision.extended a.levels.now a.target.now a.wanted.now a.least.now a.most.now (passed (goal.at.returns c).In_ok-edit_refusal) (numbers (goal.at.returns c).In_ok-by) c.find_block.ensures.0 c.find_block.ensures.1

pub returns-in_err-edit_refusal : goal.returns-in_err-edit_refusal
returns-in_err-edit_refusal c =
    let r = rw c.len.ensures at c.edit_refusal.ensures in
    let a = c.args in
    let told : c.from_residual.result ≡ Err c.in_err-edit_refusal.field-0.0 = search rules in
    rw told
    (level-refused (list_of a.list) a.kind a.n a.qp_prime.0 a.precision.bit_depth a.precision.extended a.levels.now a.target.now a.wanted.now a.least.now a.most.now c.in_err-edit_refusal.field-0.0 (ap answer (sym c.in_err-edit_refusal.was) ∙ r))

pub returns-in_err-by : goal.returns-in_err-by
returns-in_err-by c =
    let a = c.args in
    let p = passed (goal.at.returns-in_err-by c).In_ok-edit_refusal in
    params_refused a.n a.qp_prime.0 a.precision.bit_depth a.precision.extended p.0 p.1.0 c.in_err-by.field-0.0 (rw c.in_err-by.was at c.dequant_params.ensures)
