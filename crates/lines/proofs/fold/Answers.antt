-- `lines::fold` meets its contract: the loop has stored the sums and the differences of the places passed, lane by lane.
use native.Mathlib.Omega.{arith}
use Rattle.std.proofs.lemmas.List.{length-map, length-replicate, map-set}
use Rattle.lines.proofs.ColumnLaws.{sums_at, zeros_column}
use Rattle.lines.proofs.FoldLaws.{folded_none, folded_next, plus_fits, minus_fits}
use Rattle.lines.proofs.fold.Goals as goal

pub loop-m-init : goal.loop-m-init
loop-m-init g c =
    ((c.requires 0).twice, λ j. folded_none (c.requires j) (simp (length-map, length-replicate)) (zeros_column j g.row.M c.zero-z.result (c.zero-z.ensures j)))

pub plus-requires : goal.plus-requires
plus-requires g c j =
    simp (sums_at c.args.e.now c.loop-m.m (omega arith), sums_at c.args.o.now c.loop-m.m (omega arith)) (plus_fits (c.requires j) c.loop-m.m)

pub minus-requires : goal.minus-requires
minus-requires g c j =
    simp (sums_at c.args.e.now c.loop-m.m (omega arith), sums_at c.args.o.now c.loop-m.m (omega arith)) (minus_fits (c.requires j) c.loop-m.m)

pub loop-m-preserved : goal.loop-m-preserved
loop-m-preserved g c =
    let e = sums_at c.args.e.now c.loop-m.m (omega arith) in
    let o = sums_at c.args.o.now c.loop-m.m (omega arith) in (
      c.loop-m.invariant.0,
      λ j. simp map-set (folded_next (c.requires j) (c.loop-m.invariant.1 j) c.loop-m-test.true (simp (e, o) at (c.plus.ensures j)) (simp (e, o) at (c.minus.ensures j))),
    )
