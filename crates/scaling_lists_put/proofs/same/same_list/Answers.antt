-- `scaling_lists_put::same::same_list` meets its contract: by the entries, and by DC where those are equal.
use mathlib.Core.Path.{◌∙◌}
use native.Mathlib.Omega.{arith}
use Rattle.scaling_lists_codes.specs.Syntax.{size_id}
use Rattle.scaling_lists_put.specs.Lists.{factor_list}
use Rattle.scaling_lists_put.proofs.CompareLaws.{same_by_dc, same_not}
use Rattle.scaling_lists_put.proofs.same.same_list.Goals as goal

pub returns-then-eq : goal.returns-then-eq
returns-then-eq c =
    let a = c.args in
    let u = c.used_count-n.ensures in
    same_by_dc (size_id a.j) (factor_list a.a) (factor_list a.b) _ u.0 (omega (arith, u.1, a.a.whole)) (omega (arith, u.1, a.b.whole)) _ _ c.eq.ensures c.if-eq.true c.same_dc.ensures

pub returns-else-eq : goal.returns-else-eq
returns-else-eq c =
    let a = c.args in
    let u = c.used_count-n.ensures in
    c.if-eq.false ∙ same_not (size_id a.j) (factor_list a.a) (factor_list a.b) _ u.0 (omega (arith, u.1, a.a.whole)) (omega (arith, u.1, a.b.whole)) _ c.eq.ensures c.if-eq.false
