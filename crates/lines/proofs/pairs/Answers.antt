-- `lines::pairs` meets its contract: one more pair is stored, and past what x has all products are zero.
use native.Mathlib.Omega.{arith}
use Rattle.std.proofs.lemmas.List.{length-map, length-replicate, map-set}
use Rattle.lines.proofs.ColumnLaws.{zeros_column}
use Rattle.lines.proofs.DotLaws.{pair_room, paired, pairs_none, pairs_next, pairs_all}
use Rattle.lines.proofs.pairs.Goals as goal

pub loop-k-init : goal.loop-k-init
loop-k-init g c =
    (omega arith, λ j. pairs_none (simp (length-map, length-replicate)) (zeros_column j g.row.H c.zero-s.result (c.zero-s.ensures j)))

pub loop-k-preserved : goal.loop-k-preserved
loop-k-preserved g c =
    let l = pair_room c.requires c.loop-k-test.true in (
      omega (arith, l),
      λ j. simp map-set (pairs_next (c.loop-k.invariant.1 j) l (paired c.requires.small (c.products.ensures j) (c.value.ensures j) (c.value-in-loop-k.ensures j))),
    )

pub returns : goal.returns
returns g c j = pairs_all (c.loop-k.invariant.1 j) (simp length-map c.loop-k-test.false)
