-- `lines::dot` meets its contract: the loop has added up the pairs passed, lane by lane.
use native.Mathlib.Omega.{arith}
use Rattle.lines.proofs.ColumnLaws.{sums_at}
use Rattle.lines.proofs.DotLaws.{dotted_none, dotted_next, sum_fits}
use Rattle.lines.proofs.dot.Goals as goal

pub loop-k-init : goal.loop-k-init
loop-k-init g c j = dotted_none _ _ _ (c.zero-s.ensures j)

pub plus-s-requires : goal.plus-s-requires
plus-s-requires g c j =
    simp (sums_at c.pairs-p.result c.loop-k.k (omega arith))
    (sum_fits c.requires c.loop-k-test.true (c.loop-k.invariant j) (c.pairs-p.ensures j _ c.loop-k-test.true))

pub loop-k-preserved : goal.loop-k-preserved
loop-k-preserved g c j =
    dotted_next c.requires c.loop-k-test.true (c.loop-k.invariant j) (c.pairs-p.ensures j _ c.loop-k-test.true)
    (simp (sums_at c.pairs-p.result c.loop-k.k (omega arith)) at (c.plus-s.ensures j))
