-- `stages::blocks::columns_4` meets its contract: each row has its values of the first columns.
use mathlib.Core.Path.{◌≡◌}
use mathlib.Core.List.{[], ◌∷◌}
use Prim.Native.Nat.{ℕ, ◌≤◌, ◌<◌}
use native.Mathlib.Omega.{arith}
use lib.IntN.{pos}
use lib.ListN.{get_or}
use Rattle.vectors.specs.declared.Values.{Values}
use Rattle.vectors.specs.Lanes.{column}
use Rattle.vectors.proofs.LanesLaws.{all_cases}
use Rattle.tiles.proofs.TileLaws.{read_at}
use Rattle.stages.proofs.FourLaws.{column_as}
use Rattle.stages.proofs.blocks.columns_4.Goals as goal

pub returns : goal.returns
returns c j k a b =
    let r = c.first.result ∷ c.first-2.result ∷ c.first-3.result ∷ c.first-4.result ∷ [] in
    let v = λ (q : Values). q.v in
    let x = c.args.x.now in
    all_cases
    (λ (i : ℕ). i < 4 → (j < c.args.nx → get_or (column v j r) i (pos 0) ≡ get_or (column v j x) i (pos 0)) × (c.args.nx ≤ j → get_or (column v j r) i (pos 0) ≡ pos 0))
    (λ h. column_as (c.first.ensures j) (read_at v j x 0 _ c.index-x-0.is (omega (arith, c.requires.0)))) (λ h. column_as (c.first-2.ensures j) (read_at v j x 1 _ c.index-x-1.is (omega (arith, c.requires.0))))
    (λ h. column_as (c.first-3.ensures j) (read_at v j x 2 _ c.index-x-2.is (omega (arith, c.requires.0)))) (λ h. column_as (c.first-4.ensures j) (read_at v j x 3 _ c.index-x-3.is (omega (arith, c.requires.0))))
    (λ i h. absurd (let e : ⊥ = omega (arith, h) in e)) k b
