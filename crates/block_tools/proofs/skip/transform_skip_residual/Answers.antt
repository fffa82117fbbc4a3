-- `block_tools::skip::transform_skip_residual` meets its contract: refused with 25, refused as transform skip is, or the residuals that it wrote are modified where they stand.
use mathlib.Core.Path.{◌≡◌, sym, ◌∙◌}
use Rattle.std.proofs.Common.{rules, Err}
use Rattle.scaling_values.specs.Given.{list_of}
use Rattle.block_tool_work.proofs.ResidualLaws.{Skipped, skip_done, skip_block, skip_modified, skip_refused}
use Rattle.block_tools.proofs.skip.transform_skip_residual.Goals as goal
use Rattle.block_tools.proofs.skip.transform_skip_residual.Goals.{In_ok-limited}

-- what transform skip wrote
skipped : (c : In_ok-limited)
    → let a = c.args in Skipped a.accumulate a.rotate (list_of a.list) a.n a.qp_prime.0 a.precision.bit_depth a.precision.extended a.levels.now a.out.now c.in_ok-limited.limited c.skip.new.out
skipped c =
    let a = c.args in
    skip_done a.accumulate a.rotate (list_of a.list) a.n a.qp_prime.0 a.precision.bit_depth a.precision.extended a.levels.now a.out.now (sym c.rotation_refused.ensures ∙ c.in_ok-check.ensures)
    c.in_ok-limited.ensures

pub modify_block-requires : goal.modify_block-requires
modify_block-requires c =
    let a = c.args in
    skip_block a.accumulate a.rotate (list_of a.list) a.n a.qp_prime.0 a.precision.bit_depth a.precision.extended a.levels.now a.out.now (skipped (goal.at.modify_block-requires c).In_ok-limited)

pub returns : goal.returns
returns c =
    let a = c.args in
    skip_modified a.accumulate a.rotate (list_of a.list) a.n a.qp_prime.0 a.precision.bit_depth a.precision.extended a.levels.now a.out.now (skipped (goal.at.returns c).In_ok-limited) c.modify_block.ensures

pub returns-in_err-limited : goal.returns-in_err-limited
returns-in_err-limited c =
    let a = c.args in
    let told : c.from_residual-in_err-limited.result ≡ Err c.in_err-limited.field-0.0 = search rules in
    rw told
    (skip_refused a.accumulate a.rotate (list_of a.list) a.n a.qp_prime.0 a.precision.bit_depth a.precision.extended a.levels.now a.out.now c.in_err-limited.field-0.0 (sym c.rotation_refused.ensures ∙ c.in_ok-check.ensures)
    c.in_err-limited.ensures)
