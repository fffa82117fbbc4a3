-- `vectors::limited` meets its contract: each lane of both is limited.
use mathlib.Core.Path.{◌≡◌, refl, ◌∙◌}
use mathlib.Core.List.{List, ◌++◌, map}
use Prim.Native.Nat.{ℕ, ◌+◌, ◌<◌}
use native.Mathlib.Omega.{arith}
use lib.IntN.{ℤ}
use lib.Lanes.{pick_l}
use lib.ListN.{length, get_or}
use Rattle.std.specs.List.{range_with_len}
use mir.Syntax.{w16, w32}
use mir.Val.{to_z, of_z}
use Rattle.vectors.specs.Lanes.{lane}
use Rattle.vectors.proofs.LanesLaws.{lanes_fit, by_lanes, all_cases}
use Rattle.vectors.proofs.ClampLaws.{clamped, clamped_fits, limited_is}
use Rattle.vectors.proofs.limited.Goals as goal

-- a lane of two vectors side by side
abbrev joined : (ℕ → ℤ) → List ℤ → List ℤ → List ℤ
joined f a b = map f (pick_l 0 (map (of_z w32) a ++ map (of_z w32) b) (range_with_len 0 8))

joined_lanes : (f : ℕ → ℤ) (a b : List ℤ) → length a ≡ 4 → length b ≡ 4 → (j : ℕ) → j < 4
    → (lane j (joined f a b) ≡ f (of_z w32 (lane j a))) × (lane (4 + j) (joined f a b) ≡ f (of_z w32 (lane j b)))
joined_lanes f a b k l =
    by_lanes 4 (λ a b. (j : ℕ) → j < 4 → (lane j (joined f a b) ≡ f (of_z w32 (lane j a))) × (lane (4 + j) (joined f a b) ≡ f (of_z w32 (lane j b)))) a b k l
    (all_cases _ (λ h. (refl, refl)) (λ h. (refl, refl)) (λ h. (refl, refl)) (λ h. (refl, refl)) (λ j h. absurd (let e : ⊥ = omega arith in e)))

pub overflow_cast-result : goal.overflow_cast-result
overflow_cast-result c =
    let f = λ (i : ℕ). clamped_fits (get_or (map (of_z w32) c.args.a.v ++ map (of_z w32) c.args.b.v) i 0) in
    (f 0, (f 1, (f 2, (f 3, (f 4, (f 5, (f 6, (f 7, tt))))))))

pub returns : goal.returns
returns c j h =
    let p = joined_lanes (λ n. to_z w16 (of_z w16 (clamped n))) c.args.a.v c.args.b.v c.args.a.four c.args.b.four j h in
    (p.0 ∙ limited_is (lanes_fit w32 _ c.well_formed.0 j), p.1 ∙ limited_is (lanes_fit w32 _ c.well_formed.1.0 j))
