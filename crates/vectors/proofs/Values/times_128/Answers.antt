-- `vectors::Values::times_128` meets its contract: a value of 16 bits, widened, times 128 fits 32 bits.
use mathlib.Core.Path.{◌≡◌, refl, ap, ◌∙◌}
use Prim.Native.Nat.{ℕ, ◌*◌, ◌%◌}
use native.Mathlib.Omega.{arith}
use lib.IntN.{ℤ, pos, ◌*ℤ◌, *ℤ_comm}
use mir.Syntax.{w16, w32}
use mir.Val.{SFits, to_z, of_z}
use mir.Facts.{to_z-of_z, sfits_widen}
use Rattle.integers.specs.Within.{Within}
use Rattle.integers.proofs.BoundLaws.{within_lit_mul, within_fits, within_sfits, within_eq, within_pos}
use Rattle.vectors.proofs.LanesLaws.{lanes_fit, written_out, all_cases, product_bits}
use Rattle.vectors.proofs.Values.times_128.Goals as goal

-- 128 times x as the machine has it
abbrev times : ℤ → ℤ
times x = to_z w32 ((of_z w32 (to_z w16 (of_z w16 x)) * 128) % 4294967296)

times_is : {x : ℤ} → SFits w16 x → (times x ≡ pos 128 *ℤ x) × Within 4194304 (times x)
times_is {x} f =
    let factor : Within 128 (pos 128) = within_pos (omega arith) in
    let small : Within 4194304 (pos 128 *ℤ x) = within_lit_mul 128 (within_sfits f) in
    let fits : SFits w32 (x *ℤ pos 128) = rw (*ℤ_comm x (pos 128)) (within_fits tt small) in
    let e : times x ≡ pos 128 *ℤ x =
    ap (λ (z : ℤ). to_z w32 ((of_z w32 z * 128) % 4294967296)) (to_z-of_z f)
    ∙ ap (to_z w32) (product_bits {y = pos 128} (sfits_widen tt f) (within_fits tt factor) fits) ∙ to_z-of_z fits ∙ *ℤ_comm x (pos 128) in
    (e, within_eq e small)

pub invariant_of-result : goal.invariant_of-result
invariant_of-result c = rw (written_out 4 c.args.self.v c.args.self.four) (record { four = refl })

pub returns : goal.returns
returns c =
    let f = lanes_fit w16 _ c.well_formed.0 in
    rw (written_out 4 c.args.self.v c.args.self.four) (all_cases _ (times_is (f 0)) (times_is (f 1)) (times_is (f 2)) (times_is (f 3)) (λ j. (refl, within_pos (omega arith))))
