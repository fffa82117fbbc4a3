-- `tiles::columns_in_parts` meets its contract: the loop has read the rows passed.
use native.Mathlib.Omega.{arith}
use Rattle.std.proofs.lemmas.List.{length-replicate, length-map, map-set}
use Rattle.integers.proofs.ListsLaws.{stored_none, stored_more}
use Rattle.tiles.specs.Parts.{high_of, low_of}
use Rattle.tiles.proofs.TileLaws.{head_of}
use Rattle.tiles.proofs.PartsLaws.{part_at}
use Rattle.tiles.proofs.columns_in_parts.Goals as goal

pub loop-i-init : goal.loop-i-init
loop-i-init g c = (omega arith, λ j l. stored_none, λ j l. stored_none)

pub loop-i-preserved : goal.loop-i-preserved
loop-i-preserved g c =
    let r = c.requires in (
      omega arith,
      λ j l. simp map-set (stored_more (c.loop-i.invariant.1 j l) (simp (length-map, length-replicate) c.loop-i-test.true)
          (part_at (high_of c.args.k) {q = g.row.Q} {n = g.row.N} c.args.b c.args.s.now c.loop-i.i j (omega arith) r.0 r.1 l (c.high-top.ensures j l) (c.load-x.ensures j l))),
      λ j l. simp map-set (stored_more (c.loop-i.invariant.2 j l) (simp (length-map, length-replicate) c.loop-i-test.true)
          (part_at (low_of c.args.k) {q = g.row.Q} {n = g.row.N} c.args.b c.args.s.now c.loop-i.i j (omega arith) r.0 r.1 l (c.low.ensures j l) (c.load-x.ensures j l))),
    )

pub returns-clause-high : goal.returns-clause-high
returns-clause-high g c = λ j l. head_of g.row.N (c.loop-i.invariant.1 j l) (simp (length-map, length-replicate)) (omega arith)

pub returns-clause-low : goal.returns-clause-low
returns-clause-low g c = λ j l. head_of g.row.N (c.loop-i.invariant.2 j l) (simp (length-map, length-replicate)) (omega arith)
