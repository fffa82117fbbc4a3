-- `scaling_blocks::each::skip_block` meets its contract. The loop's invariant: the first i places hold their residuals, the others still their coefficients.
use Rattle.std.specs.Prelude.{map}
use Rattle.integers.proofs.ListsLaws.{Stored}
use Rattle.scaling_values.specs.Work.{residual_at}
use Rattle.scaling_blocks.proofs.each.skip_block.Given as goal

abbrev pub invariant-loop-i : goal.invariant-loop-i
invariant-loop-i g l = Stored (residual_at l.by.tr_shift (map g.R.Residual.reads l.initial.out)) (map g.R.Residual.reads l.initial.out) l.i (map g.R.Residual.reads l.out)
