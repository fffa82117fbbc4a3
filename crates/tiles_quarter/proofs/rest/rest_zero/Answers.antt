-- `tiles_quarter::rest::rest_zero` meets its contract: `zero` is true only where all elements passed are zero.
use mathlib.Core.Path.{ap, sym, ◌∙◌}
use native.Mathlib.Omega.{arith}
use lib.IntN.{pos}
use Rattle.std.proofs.lemmas.List.{get_or-map}
use Rattle.tiles_quarter.proofs.RestLaws.{zero_more}
use Rattle.tiles_quarter.proofs.rest.rest_zero.Goals as goal

pub loop-i-preserved : goal.loop-i-preserved
loop-i-preserved g c =
    let f = g.T.Output.value in
    let i = c.loop-i.i in
    zero_more c.loop-i.zero c.is_zero-zero.result c.loop-i.invariant
    (λ e. get_or-map f c.args.x.now i c.index-x-i.result (pos 0) (omega arith) ∙ ap f (sym c.index-x-i.is) ∙ c.is_zero-zero.ensures e)
