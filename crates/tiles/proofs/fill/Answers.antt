-- `tiles::fill` meets its contract: the places passed hold v.
use mathlib.Core.Path.{refl}
use native.Mathlib.Omega.{arith}
use Rattle.std.proofs.lemmas.List.{length-map, map-set}
use Rattle.integers.proofs.ListsLaws.{stored_none, stored_more, stored_all}
use Rattle.tiles.proofs.fill.Goals as goal

pub loop-i-init : goal.loop-i-init
loop-i-init g c = stored_none

pub loop-i-preserved : goal.loop-i-preserved
loop-i-preserved g c =
    rw (map-set g.T.Output.value c.loop-i.out c.loop-i.i c.args.v)
    (stored_more c.loop-i.invariant (omega (arith, length-map c.args.out.now g.T.Output.value)) refl)

pub returns : goal.returns
returns g c = stored_all c.loop-i.invariant (omega arith)
