-- `scaling_lists_put::list::put_list` meets its contract: the form that the definition chooses.
use mathlib.Core.Path.{sym, ◌∙◌}
use Rattle.scaling_lists_taken.specs.Lent.{lent_lists}
use Rattle.scaling_lists_put.specs.Lists.{set_lists}
use Rattle.scaling_lists_put.proofs.PutLaws.{list_default, list_back, list_full}
use Rattle.scaling_lists_put.proofs.list.put_list.Goals as goal

pub returns-then-is_default : goal.returns-then-is_default
returns-then-is_default c =
    let a = c.args in
    list_default (lent_lists a.defaults) (set_lists a.set) a.j (sym c.is_default.ensures ∙ c.if-is_default.true) c.put_taken.ensures

pub returns-in-Some : goal.returns-in-Some
returns-in-Some c =
    let a = c.args in
    let e = c.in-Some.ensures {u = tt} in
    list_back (lent_lists a.defaults) (set_lists a.set) a.j _ (sym c.is_default.ensures ∙ c.if-is_default.false) e.0 e.1 c.put_taken-in-Some.ensures

pub returns : goal.returns
returns c =
    let a = c.args in
    list_full (lent_lists a.defaults) (set_lists a.set) a.j (sym c.is_default.ensures ∙ c.if-is_default.false) (c.in_default.ensures {u = tt}) (rw c.list.ensures at c.put_full.ensures)
