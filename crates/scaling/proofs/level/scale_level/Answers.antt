-- `scaling::level::scale_level` meets its contract: refused where the numbers of the block are, else the level scaled by them.
use mathlib.Core.Path.{◌≡◌, sym, ap, ◌∙◌}
use Rattle.std.proofs.Common.{rules, Err}
use Rattle.integers.proofs.MachineLaws.{round_trip}
use Rattle.refusal.specs.Outcome.{accepted, outcome}
use Rattle.parameters.specs.Answers.{no_dequant}
use Rattle.parameters.specs.Parameters.{dequant_params}
use Rattle.scaling.specs.Answers.{no_level}
use Rattle.scaling.proofs.AnswerLaws.{scaled_ext, level-refused, level_ready}
use Rattle.scaling.proofs.level.scale_level.Goals as goal
use Rattle.scaling.proofs.level.scale_level.Goals.{In_ok-by}

-- what the numbers answered
is_accepted : (c : In_ok-by)
    → let a = c.args in accepted c.in_ok-by.by ≡ dequant_params a.n a.qp_prime.0 a.precision.bit_depth a.precision.extended
is_accepted c = sym (ap (outcome no_dequant) c.in_ok-by.was) ∙ c.dequant_params.ensures

pub scaled_listed-requires : goal.scaled_listed-requires
scaled_listed-requires c =
    let a = c.args in
    (level_ready a.level a.m a.n a.qp_prime.0 a.precision.bit_depth a.precision.extended c.in_ok-by.by (is_accepted (goal.at.scaled_listed-requires c).In_ok-by)).0

pub returns : goal.returns
returns c =
    let a = c.args in
    let told = rw (round_trip c.ranges.level) at c.scaled_listed.ensures in
    ap accepted (scaled_ext told.value told.before told.after)
    ∙ (level_ready a.level a.m a.n a.qp_prime.0 a.precision.bit_depth a.precision.extended c.in_ok-by.by (is_accepted (goal.at.returns c).In_ok-by)).1

pub returns-in_err-by : goal.returns-in_err-by
returns-in_err-by c =
    let a = c.args in
    let told : c.from_residual.result ≡ Err c.in_err-by.field-0.0 = search rules in
    ap (outcome no_level) told
    ∙ level-refused a.level a.m a.n a.qp_prime.0 a.precision.bit_depth a.precision.extended c.in_err-by.field-0.0 (sym (ap (outcome no_dequant) c.in_err-by.was) ∙ c.dequant_params.ensures)
