-- `vectors::Values::first` meets its contract: the test of a lane chooses its value, or zero.
use mathlib.Core.Path.{◌≡◌, refl, ap, ◌∙◌}
use mathlib.Core.Bool.{Bool, true, false, cond}
use Prim.Native.Nat.{ℕ, ◌≤◌, ◌<◌}
use native.Mathlib.Omega.{arith}
use lib.IntN.{ℤ, pos}
use lib.Lanes.{top}
use lib.Signed.{lt_z, ◌≤ℤ◌, ◌<ℤ◌}
use mir.Syntax.{w16}
use mir.Val.{SFits, to_z, of_z}
use mir.Facts.{to_z-of_z}
use Rattle.integers.proofs.LinearLaws.{le_in, lt_in}
use Rattle.integers.proofs.MachineLaws.{lt_z_true, lt_z_false}
use Rattle.vectors.proofs.LanesLaws.{lanes_fit, written_out, all_cases}
use Rattle.vectors.proofs.Values.first.Goals as goal

-- what the machine chooses by the test of lane j
abbrev chosen : ℕ → ℕ → ℤ → ℤ
chosen j n x = to_z w16 (cond (top 15 (cond (lt_z (pos j) (to_z w16 n)) 65535 0)) (of_z w16 x) 0)

chosen_is : (j n : ℕ) {x : ℤ} → n ≤ 4 → SFits w16 x → (j < n → chosen j n x ≡ x) × (n ≤ j → chosen j n x ≡ pos 0)
chosen_is j n {x} h f = by_test (lt_z (pos j) (to_z w16 n)) refl
  where
    count : to_z w16 n ≡ pos n
    count = to_z-of_z {w = w16} {z = pos n} (record { sfits = omega arith })

    by_test : (t : Bool) → lt_z (pos j) (to_z w16 n) ≡ t → (j < n → chosen j n x ≡ x) × (n ≤ j → chosen j n x ≡ pos 0)
    by_test true e = (λ l. simp e (to_z-of_z f), λ l. absurd (let p : pos j <ℤ pos n = lt_z_true (rw count at e) in let b : ⊥ = omega (arith, lt_in p, l) in b))
    by_test false e = (λ l. absurd (let p : pos n ≤ℤ pos j = lt_z_false (rw count at e) in let b : ⊥ = omega (arith, le_in p, l) in b), λ l. simp e refl)

pub returns : goal.returns
returns c =
    let f = lanes_fit w16 _ c.well_formed.0 in
    rw (written_out 4 c.args.self.v c.args.self.four)
    (all_cases _ (chosen_is 0 c.args.count c.requires (f 0)) (chosen_is 1 c.args.count c.requires (f 1)) (chosen_is 2 c.args.count c.requires (f 2)) (chosen_is 3 c.args.count c.requires (f 3))
    (λ j. (λ l. absurd (let b : ⊥ = omega (arith, c.requires, l) in b), λ l. refl)))
