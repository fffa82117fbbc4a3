-- `scaling_lists::taken::fill_referred` meets its contract: the entries are those of the list taken over, and DC is by the same test.
use mathlib.Core.Path.{sym, ap, ◌∙◌}
use Rattle.scaling_lists_codes.specs.Syntax.{size_id, matrix_id}
use Rattle.scaling_lists_taken.specs.Held.{list_entries}
use Rattle.scaling_lists_taken.specs.Lent.{lent_lists}
use Rattle.scaling_lists_taken.proofs.TakenLaws.{taken_default, taken_held}
use Rattle.scaling_lists.proofs.ListLaws.{referred_default, referred-held}
use Rattle.scaling_lists.proofs.taken.fill_referred.Goals as goal

pub returns-then-delta-eq0 : goal.returns-then-delta-eq0
returns-then-delta-eq0 c =
    let a = c.args in
    let lent = lent_lists a.defaults in
    referred_default lent (size_id a.j) (matrix_id a.j) _ a.delta _ c.if-delta-eq0.true
    (c.copy_from_slice.ensures.after ∙ c.list_taken.ensures.0 ∙ taken_default lent a.held.now.entries a.j a.delta c.if-delta-eq0.true)

pub returns : goal.returns
returns c =
    let a = c.args in
    let lent = lent_lists a.defaults in
    let n = c.number_of in
    referred-held lent (size_id a.j) (matrix_id a.j) a.j a.held.now.entries a.held.now.dcs a.delta n.result _ c.if-delta-eq0.false n.ensures.0 n.ensures.1
    (c.copy_from_slice.ensures.after ∙ c.list_taken.ensures.0 ∙ taken_held lent a.held.now.entries a.j a.delta c.if-delta-eq0.false ∙ ap (list_entries a.held.now.entries) (sym n.ensures.0))
