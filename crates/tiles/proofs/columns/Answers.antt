-- `tiles::columns` meets its contract: the loop has read the rows passed.
use mathlib.Core.Path.{ap, ◌∙◌}
use mathlib.Core.List.{map}
use Prim.Native.Nat.{ℕ}
use native.Mathlib.Omega.{arith}
use lib.IntN.{pos}
use lib.ListN.{get_or}
use Rattle.std.proofs.lemmas.List.{length-replicate, length-map, map-set}
use Rattle.integers.proofs.ListsLaws.{stored_none, stored_more}
use Rattle.tiles.proofs.TileLaws.{head_of}
use Rattle.tiles.proofs.columns.Goals as goal

pub loop-k-init : goal.loop-k-init
loop-k-init g c = (omega arith, λ j l. stored_none)

pub loop-k-preserved : goal.loop-k-preserved
loop-k-preserved g c = (
  omega arith,
  λ j l. simp map-set (stored_more (c.loop-k.invariant.1 j l) (simp (length-map, length-replicate) c.loop-k-test.true)
      (c.load.ensures j l ∙ ap (λ (i : ℕ). get_or (map g.I.Input.read c.args.a.now) i (pos 0)) (omega arith))),
)

pub returns : goal.returns
returns g c = λ j l. head_of g.row.N (c.loop-k.invariant.1 j l) (simp (length-map, length-replicate)) (omega arith)
