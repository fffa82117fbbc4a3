-- `scaling_lists_codes::delta_code` meets its contract: by what stands at the offset.
use mathlib.Core.Path.{◌∙◌}
use native.Mathlib.Omega.{arith}
use Rattle.std.proofs.lemmas.Result.{err_from_is_err_and, IfOk-weaker}
use Rattle.scaling_lists_codes.specs.Syntax.{delta_of, delta_code}
use Rattle.scaling_lists_codes.proofs.ReadingLaws.{then_stop, then_read}
use Rattle.scaling_lists_codes.proofs.delta_code.Goals as goal

pub returns-in_err-number : goal.returns-in_err-number
unfolding delta_code
returns-in_err-number c =
    let p = err_from_is_err_and c.from_residual.result c.from_residual.ensures.1 in
    rw (p.1, p.2) (then_stop (delta_of c.args.next c.args.at) c.in_err-number.ensures.0, tt)

pub returns : goal.returns
unfolding delta_code
returns c =
    let n = c.in_ok-number.ensures in
    (c.delta_of.ensures.0 ∙ then_read (delta_of c.args.next c.args.at) n.0, IfOk-weaker c.delta_of.result _ _ (λ r e. omega (arith, e, n.1)) c.delta_of.ensures.1)
