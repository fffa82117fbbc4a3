-- `scaling_lists_codes::dc_code` meets its contract: by what stands at the offset.
use mathlib.Core.Path.{◌∙◌}
use native.Mathlib.Omega.{arith}
use Rattle.std.proofs.lemmas.Result.{err_from_is_err_and, IfOk-weaker}
use Rattle.scaling_lists_codes.specs.Syntax.{dc_of, dc_code}
use Rattle.scaling_lists_codes.proofs.ReadingLaws.{then_stop, then_read}
use Rattle.scaling_lists_codes.proofs.dc_code.Goals as goal

pub returns-in_err-number : goal.returns-in_err-number
unfolding dc_code
returns-in_err-number c =
    let p = err_from_is_err_and c.from_residual.result c.from_residual.ensures.1 in
    rw (p.1, p.2) (then_stop (dc_of c.args.at) c.in_err-number.ensures.0, tt)

pub returns : goal.returns
unfolding dc_code
returns c =
    let n = c.in_ok-number.ensures in
    (c.dc_of.ensures.0 ∙ then_read (dc_of c.args.at) n.0, IfOk-weaker c.dc_of.result _ _ (λ r e. omega (arith, e, n.1)) c.dc_of.ensures.1)
