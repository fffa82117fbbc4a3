-- `scaling_blocks::each::scale_by` meets its contract: at sizes 4 and 8 the list's entries are the m of their indices, at 16 and 32 the entries
-- that were laid out are.
use mathlib.Core.Path.{sym}
use native.Mathlib.Omega.{arith}
use Rattle.scaling_values.proofs.FactorLaws.{factor_small}
use Rattle.scaling_blocks.proofs.WorkLaws.{by_entry_same}
use Rattle.scaling_blocks.proofs.each.scale_by.Goals as goal

pub returns-then-n-le8 : goal.returns-then-n-le8
returns-then-n-le8 g c =
    let a = c.args in
    by_entry_same (g.P.ByEntry.scales c.args.by) (g.P.ByEntry.limits c.args.by) _ _ a.levels.now (λ i h. sym (factor_small a.list.now a.dc a.n i c.requires.whole_list.size c.if-n-le8.true)) c.scale_entries.ensures

pub returns : goal.returns
returns g c =
    by_entry_same (g.P.ByEntry.scales c.args.by) (g.P.ByEntry.limits c.args.by) _ _ c.args.levels.now (c.spread.ensures.more (λ k h. absurd (let x : ⊥ = omega arith in x))) c.scale_entries-2.ensures
