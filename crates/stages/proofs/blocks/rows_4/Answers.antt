-- `stages::blocks::rows_4` meets its contract: each row has its output of every line, limited.
use mathlib.Core.Path.{◌≡◌, ap, ◌∙◌}
use mathlib.Core.List.{[], ◌∷◌}
use Prim.Native.Nat.{ℕ, ◌<◌}
use native.Mathlib.Omega.{arith}
use lib.IntN.{pos}
use lib.ListN.{get_or}
use Rattle.h265.specs.Range.{clip_coeff}
use Rattle.vectors.specs.declared.Values.{Values}
use Rattle.vectors.specs.declared.Sums.{Sums}
use Rattle.vectors.specs.Lanes.{lane, column}
use Rattle.vectors.proofs.LanesLaws.{all_cases}
use Rattle.tiles.proofs.TileLaws.{four_made}
use Rattle.stages.proofs.blocks.rows_4.Goals as goal

pub returns : goal.returns
returns c j m a b =
    let t = c.values_turned.ensures in
    let e = four_made (λ (q : Sums). q.v) (clip_coeff 15) c.args.z.now _ _ _ _ _ _ _ _ (omega (arith, c.requires)) c.index-z-0.is c.index-z-1.is c.index-z-2.is c.index-z-3.is c.limited.ensures c.limited-2.ensures c.limited-3.ensures c.limited-4.ensures in
    let r = c.values_turned.result.0 ∷ c.values_turned.result.1 ∷ c.values_turned.result.2 ∷ c.values_turned.result.3 ∷ [] in
    all_cases
    (λ (i : ℕ). i < 4 → get_or (column (λ (q : Values). q.v) m r) i (pos 0) ≡ clip_coeff 15 (get_or (column (λ (q : Sums). q.v) i c.args.z.now) m (pos 0)))
    (λ h. ap (lane m) t.first ∙ e 0 m h b) (λ h. ap (lane m) t.second ∙ e 1 m h b) (λ h. ap (lane m) t.third ∙ e 2 m h b) (λ h. ap (lane m) t.fourth ∙ e 3 m h b)
    (λ i h. absurd (let x : ⊥ = omega (arith, h) in x)) j a
