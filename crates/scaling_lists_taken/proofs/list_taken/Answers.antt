-- `scaling_lists_taken::list_taken` meets its contract: the default, or the part of the lists where the one meant stands.
use mathlib.Core.Path.{refl, sym, ◌∙◌}
use native.Mathlib.Omega.{arith}
use Rattle.scaling_lists_taken.specs.Lent.{lent_lists}
use Rattle.scaling_lists_taken.proofs.TakenLaws.{taken_default, part_held, length-part}
use Rattle.scaling_lists_taken.proofs.list_taken.Goals as goal

pub returns-then-delta-eq0 : goal.returns-then-delta-eq0
returns-then-delta-eq0 c =
    (c.of.ensures.0 ∙ sym (taken_default (lent_lists c.args.defaults) c.args.lists.now c.args.j c.args.delta c.if-delta-eq0.true), c.of.ensures.1)

pub returns : goal.returns
returns c =
    let a = c.args in
    (part_held (lent_lists a.defaults) a.lists.now a.j a.delta c.number_of-first.result _ _ c.if-delta-eq0.false c.number_of-first.ensures.0 refl refl (omega (arith, c.number_of-first.ensures.1, c.requires)), length-part a.lists.now _ _ (omega (arith, c.number_of-first.ensures.1, c.requires)) ∙ omega arith)
