-- `scaling_lists_put::set::ListSet::list` meets its contract: the part of the lists is list j.
use mathlib.Core.Path.{refl, sym, ap, ◌∙◌}
use mathlib.Core.List.{List}
use Prim.Native.Nat.{ℕ}
use native.Mathlib.Omega.{arith}
use lib.ListN.{get_or}
use Rattle.scaling_lists_codes.specs.Syntax.{FactorList}
use Rattle.scaling_lists_taken.proofs.TakenLaws.{part-list}
use Rattle.scaling_lists_put.proofs.CompareLaws.{held-list}
use Rattle.scaling_lists_put.proofs.set.ListSet.list.Goals as goal

pub returns : goal.returns
returns c =
    let s = c.args.self in
    let j = c.args.j in
    ap (λ (es : List ℕ). let l : FactorList = record { entries = es; dc = get_or s.dcs.now j 0 } in l)
    (part-list s.lists.now j _ _ refl refl (omega (arith, s.whole.0, c.requires)))
    ∙ sym (held-list s.lists.now s.dcs.now j c.requires)
