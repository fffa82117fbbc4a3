-- `scaling_blocks::each::scale_entries` meets its contract. The loop's invariant: the first i places hold their coefficients, the others are as lent,
-- and of the first i levels so many were limited.
use Rattle.std.specs.Prelude.{map, get_or}
use Rattle.integers.proofs.ListsLaws.{Stored}
use Rattle.scaling_values.proofs.CountLaws.{Tally}
use Rattle.scaling_blocks.specs.Each.{by_entry}
use Rattle.scaling_blocks.proofs.each.scale_entries.Given as goal

abbrev pub invariant-loop-i : goal.invariant-loop-i
invariant-loop-i g l = record {
  stored : Stored (by_entry (g.P.ByEntry.scales l.by) (λ i. get_or l.entries i 0) l.levels) (map g.R.Residual.reads l.initial.out) l.i (map g.R.Residual.reads l.out);
  told : Tally (by_entry (g.P.ByEntry.limits l.by) (λ i. get_or l.entries i 0) l.levels) l.i l.limited;
}
