-- `tiles::I16Output::put_block` meets its contract: four limited outputs of each line, turned over, are four rows.
use native.Mathlib.Omega.{arith}
use Rattle.h265.specs.Range.{clip_coeff}
use Rattle.tiles.proofs.TileLaws.{block_four, block_cong, block_same, by_row, four_made}
use Rattle.tiles.proofs.I16Output.put_block.Goals as goal

pub returns : goal.returns
returns c =
    let t = c.values_turned.ensures in
    block_same
    (block_cong (λ j m a h. four_made _ (clip_coeff 15) c.args.v.now _ _ _ _ _ _ _ _ (omega (arith, c.requires.0)) c.index-v-0.is c.index-v-1.is c.index-v-2.is c.index-v-3.is c.limited.ensures c.limited-2.ensures c.limited-3.ensures c.limited-4.ensures j m a h)
    (block_four {w = 4} (omega arith) (omega arith) (by_row t.first (λ l. c.store.ensures, λ l. absurd (let b : ⊥ = omega arith in b))) (by_row t.second (λ l. c.store-2.ensures, λ l. absurd (let b : ⊥ = omega arith in b)))
    (by_row t.third (λ l. c.store-3.ensures, λ l. absurd (let b : ⊥ = omega arith in b))) (by_row t.fourth (λ l. c.store-4.ensures, λ l. absurd (let b : ⊥ = omega arith in b)))))
