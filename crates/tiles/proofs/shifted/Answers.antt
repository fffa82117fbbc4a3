-- `tiles::shifted` meets its contract: the loop has shifted the outputs passed.
use mathlib.Core.Path.{ap, ◌∙◌}
use native.Mathlib.Omega.{arith}
use lib.IntN.{ℤ}
use Rattle.std.proofs.lemmas.List.{length-map, length-replicate, map-set}
use Rattle.integers.specs.Shift.{shift_right}
use Rattle.integers.proofs.ListsLaws.{stored_none, stored_more}
use Rattle.tiles.proofs.TileLaws.{stored_at, column_at}
use Rattle.tiles.proofs.shifted.Goals as goal

pub loop-m-init : goal.loop-m-init
loop-m-init g c = (omega arith, λ j. stored_none)

pub loop-m-preserved : goal.loop-m-preserved
loop-m-preserved g c = (
  omega arith,
  λ j. simp map-set (stored_more (c.loop-m.invariant.1 j) (simp (length-map, length-replicate) c.loop-m-test.true)
      (c.shifted.ensures j ∙ ap (λ (x : ℤ). shift_right x c.args.s) (column_at _ j c.args.z.now _ _ (omega (arith, c.type_inv.z))))),
)

pub returns : goal.returns
returns g c = λ j m l. stored_at (c.loop-m.invariant.1 j) (omega arith) m l
