-- `scaling_blocks::refuse::block_params` meets its contract: refused as the ladder says, else with the numbers of the block.
use mathlib.Core.Path.{sym, ap, ◌∙◌, ◌≡◌}
use Rattle.std.proofs.Common.{rules, Err}
use Rattle.refusal.specs.Outcome.{answer, outcome}
use Rattle.parameters.specs.Answers.{no_transform_skip}
use Rattle.scaling_blocks.proofs.BlockLaws.{refused_params, passed_params}
use Rattle.scaling_blocks.proofs.refuse.block_params.Goals as goal

pub returns-in_err-block_refused : goal.returns-in_err-block_refused
returns-in_err-block_refused c =
    let a = c.args in
    let told : c.from_residual.result ≡ Err c.in_err-block_refused.field-0.0 = search rules in
    ap (outcome no_transform_skip) told
    ∙ refused_params a.narrow a.n a.qp_prime.0 a.precision.bit_depth a.precision.extended a.entries a.levels a.places c.in_err-block_refused.field-0.0
    (sym (ap answer c.in_err-block_refused.was) ∙ c.block_refused.ensures)

pub returns : goal.returns
returns c =
    let a = c.args in
    c.transform_skip_params.ensures
    ∙ passed_params a.narrow a.n a.qp_prime.0 a.precision.bit_depth a.precision.extended a.entries a.levels a.places
    (sym (ap answer c.in_ok-block_refused.was) ∙ c.block_refused.ensures)
