-- `tiles::joined` meets its contract: the loop has joined the outputs passed.
use mathlib.Core.Path.{ap, ap₂, ◌∙◌}
use Prim.Native.Nat.{◌+◌, ◌^◌}
use native.Mathlib.Omega.{arith}
use lib.IntN.{ℤ, ◌+ℤ◌}
use Rattle.std.proofs.lemmas.List.{length-map, length-replicate, map-set}
use Rattle.integers.specs.Shift.{shift_right}
use Rattle.integers.proofs.BoundLaws.{within_add, within_eq, within_fits}
use Rattle.integers.proofs.ListsLaws.{stored_none, stored_more}
use Rattle.tiles.proofs.TileLaws.{stored_at, column_at}
use Rattle.tiles.proofs.joined.Goals as goal

pub loop-m-init : goal.loop-m-init
loop-m-init g c = (omega arith, λ j. stored_none)

pub plus-requires : goal.plus-requires
plus-requires g c = λ j.
    let b = c.requires.1 j c.loop-m.m (omega arith) in
    within_fits {b = 2 ^ 29 + 2 ^ 29} tt
    (within_add (within_eq (column_at _ j c.args.d.now _ _ (omega (arith, c.type_inv.d))) b.0) (within_eq (column_at _ j c.args.g.now _ _ (omega (arith, c.type_inv.g))) b.1))

pub loop-m-preserved : goal.loop-m-preserved
loop-m-preserved g c = (
  omega arith,
  λ j. simp map-set (stored_more (c.loop-m.invariant.1 j) (simp (length-map, length-replicate) c.loop-m-test.true)
      (c.shifted.ensures j
      ∙ ap (λ (x : ℤ). shift_right x c.args.by)
      (c.plus.ensures j ∙ ap₂ ◌+ℤ◌ (column_at _ j c.args.d.now _ _ (omega (arith, c.type_inv.d))) (column_at _ j c.args.g.now _ _ (omega (arith, c.type_inv.g)))))),
)

pub returns : goal.returns
returns g c = λ j m l. stored_at (c.loop-m.invariant.1 j) (omega arith) m l
