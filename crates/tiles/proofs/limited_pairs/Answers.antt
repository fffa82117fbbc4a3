-- `tiles::limited_pairs` meets its contract: the outputs passed stand in their rows, limited.
use mathlib.Core.Path.{refl, ap, ◌∙◌}
use native.Mathlib.Omega.{arith}
use lib.IntN.{pos}
use lib.ListN.{get_or, length-set}
use Rattle.h265.specs.Range.{clip_coeff}
use Rattle.vectors.specs.Lanes.{column}
use Rattle.tiles.proofs.TileLaws.{paired_more, read_at}
use Rattle.tiles.proofs.limited_pairs.Goals as goal

pub loop-t-init : goal.loop-t-init
loop-t-init c = (omega arith, refl, λ j m o z. absurd (let b : ⊥ = omega arith in b))

pub loop-t-preserved : goal.loop-t-preserved
loop-t-preserved c = (
  omega arith,
  length-set c.loop-t.p c.loop-t.t c.limited.result ∙ c.loop-t.invariant.1,
  paired_more _ (λ j m. clip_coeff 15 (get_or (column (λ q. q.v) j c.args.v.now) m (pos 0))) c.loop-t.p c.loop-t.t c.limited.result (omega (arith, c.requires.most, c.loop-t.invariant.1)) c.loop-t.invariant.2
      (λ j o. (
        (c.limited.ensures j o).0 ∙ ap (clip_coeff 15) (read_at _ j c.args.v.now _ _ c.index-v-t.is (omega arith)),
        (c.limited.ensures j o).1 ∙ ap (clip_coeff 15) (read_at _ j c.args.v.now _ _ c.index-v-t-in-loop-t.is (omega arith)),
      )),
)

pub returns : goal.returns
returns c = λ j m o z. c.loop-t.invariant.2 j m o (omega (arith, z, c.requires.parts))
