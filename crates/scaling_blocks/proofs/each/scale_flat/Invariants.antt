-- `scaling_blocks::each::scale_flat` meets its contract. The loop's invariant: the first i places hold their coefficients, the others are as lent,
-- and of the first i levels so many were limited.
use Rattle.std.specs.Prelude.{map}
use Rattle.integers.proofs.ListsLaws.{Stored}
use Rattle.scaling_values.specs.Flat.{short_at, short_limited_at}
use Rattle.scaling_values.proofs.CountLaws.{Tally}
use Rattle.scaling_blocks.proofs.each.scale_flat.Given as goal

abbrev pub invariant-loop-i : goal.invariant-loop-i
invariant-loop-i g l = record {
  stored : Stored (short_at l.by l.levels) (map g.R.Residual.reads l.initial.out) l.i (map g.R.Residual.reads l.out);
  told : Tally (short_limited_at l.by l.levels) l.i l.limited;
}
