-- `scaling_lists::coded::coded_list` meets its contract: from 16×16 on DC comes first.
use mathlib.Core.Path.{◌∙◌}
use native.Mathlib.Omega.{arith}
use Rattle.std.proofs.lemmas.Result.{err_from_is_err_and, IfOk-weaker}
use Rattle.scaling_lists.proofs.ListLaws.{coded_plain, coded_dc, coded_dc_stop}
use Rattle.scaling_lists.proofs.coded.coded_list.Goals as goal

pub returns-then-size_id-le1 : goal.returns-then-size_id-le1
returns-then-size_id-le1 c =
    let a = c.args in
    let r = c.coded_entries in
    (r.ensures.0 ∙ coded_plain a.bytes.now a.size_id a.at c.if-size_id-le1.true, IfOk-weaker r.result _ _ (λ b h. omega (arith, h)) r.ensures.1)

pub returns-in_err-dc : goal.returns-in_err-dc
returns-in_err-dc c =
    let a = c.args in
    let p = err_from_is_err_and c.from_residual.result c.from_residual.ensures.1 in
    rw (p.1, p.2) (coded_dc_stop a.bytes.now a.size_id a.at _ c.if-size_id-le1.false c.in_err-dc.ensures.0, tt)

pub returns : goal.returns
returns c =
    let a = c.args in
    let d = c.in_ok-dc.ensures in
    let r = c.coded_entries-2 in
    (r.ensures.0 ∙ coded_dc a.bytes.now a.size_id a.at _ _ c.if-size_id-le1.false d.0, IfOk-weaker r.result _ _ (λ b h. omega (arith, h, d.1)) r.ensures.1)
