-- `scaling_lists_writer::values::nonzero_list` meets its contract: by the entries, and by DC where none of those is 0.
use mathlib.Core.Path.{ap, ◌∙◌}
use mathlib.Core.Bool.{not}
use native.Mathlib.Omega.{arith}
use Rattle.scaling_lists_codes.specs.Syntax.{size_id}
use Rattle.scaling_lists_put.specs.Lists.{factor_list}
use Rattle.scaling_lists_writer.proofs.ValueLaws.{nonzero_by_dc, nonzero_not}
use Rattle.scaling_lists_writer.proofs.values.nonzero_list.Goals as goal

pub returns-then-not-contains : goal.returns-then-not-contains
returns-then-not-contains c =
    let a = c.args in
    let u = c.used_count-n.ensures in
    nonzero_by_dc (size_id a.j) (factor_list a.list) _ u.0 (omega (arith, u.1, a.list.whole)) _ _ c.contains.ensures.value c.if-not-contains.true c.nonzero_dc.ensures

pub returns-else-not-contains : goal.returns-else-not-contains
returns-else-not-contains c =
    let a = c.args in
    let u = c.used_count-n.ensures in
    ap not c.if-not-contains.false ∙ nonzero_not (size_id a.j) (factor_list a.list) _ u.0 (omega (arith, u.1, a.list.whole)) _ c.contains.ensures.value c.if-not-contains.false
