-- `feed_state::settings::take_parameters` meets its contract: the tests are the definition's, in its order.
use mathlib.Core.Path.{◌≡◌, sym, refl, ◌∙◌}
use Rattle.std.proofs.Common.{rules, Err}
use native.Mathlib.Omega.{arith}
use Rattle.refusal.specs.declared.Refusal.TheVariants.{DepthInvalid, ParameterInvalid}
use Rattle.feed_rules.specs.Record.{parameters_effect}
use Rattle.feed_state.proofs.StateLaws.{none_said, quiet_kept, quiet_moved}
use Rattle.feed_state.proofs.settings.take_parameters.Goals as goal

pub returns-in_err-check_depth : goal.returns-in_err-check_depth
unfolding parameters_effect
returns-in_err-check_depth c =
    let told : c.from_residual.result ≡ Err c.in_err-check_depth.field-0.0 = search rules in
    let why = c.in_err-check_depth.ensures in
    record { leaves = λ w. rw (told, why.1, why.0) (quiet_kept c.args.s DepthInvalid c.args.at w (omega arith) (omega arith)) }

pub returns-in_err-extended : goal.returns-in_err-extended
unfolding parameters_effect
returns-in_err-extended c =
    let told : c.from_residual-in_err-extended.result ≡ Err c.in_err-extended.field-0.0 = search rules in
    let why = none_said _ ParameterInvalid _ c.in_err-extended.ensures.value in
    record {
      leaves = λ w.
          rw (told, why.1, c.in_ok-check_depth.ensures.0, sym c.flag_of.ensures ∙ why.0)
          (quiet_kept c.args.s ParameterInvalid c.args.at w (omega arith) (omega arith));
    }

pub returns-in_err-mode : goal.returns-in_err-mode
unfolding parameters_effect
returns-in_err-mode c =
    let told : c.from_residual-in_err-mode.result ≡ Err c.in_err-mode.field-0.0 = search rules in
    let why = none_said _ ParameterInvalid _ c.in_err-mode.ensures.value in
    record {
      leaves = λ w.
          rw (told, why.1, c.in_ok-check_depth.ensures.0, sym c.flag_of.ensures ∙ c.in_ok-extended.ensures.ok_part, sym c.known_mode.ensures ∙ why.0)
          (quiet_kept c.args.s ParameterInvalid c.args.at w (omega arith) (omega arith));
    }

pub returns : goal.returns
unfolding parameters_effect
returns c =
    record {
      leaves = λ w.
          rw (c.in_ok-check_depth.ensures.0, sym c.flag_of.ensures ∙ c.in_ok-extended.ensures.ok_part, sym c.known_mode.ensures ∙ c.in_ok-mode.ensures.ok_part)
          (quiet_moved c.args.s _ w _ c.args.at (omega arith) (rw c.body_length.ensures at c.behind.ensures) refl);
    }
