-- `vectors::Sums::limited` meets its contract: each lane is limited.
use Prim.Native.Nat.{ℕ}
use native.Mathlib.Omega.{arith}
use mir.Syntax.{w32}
use mir.Val.{of_z}
use Rattle.vectors.specs.Lanes.{lane}
use Rattle.vectors.proofs.LanesLaws.{lanes_fit, written_out, all_cases}
use Rattle.vectors.proofs.ClampLaws.{clamped_fits, limited_is}
use Rattle.vectors.proofs.Sums.limited.Goals as goal

pub overflow_cast-result : goal.overflow_cast-result
overflow_cast-result c =
    let f = λ (i : ℕ). clamped_fits (of_z w32 (lane i c.args.self.v)) in
    rw (written_out 4 c.args.self.v c.args.self.four) (f 0, (f 1, (f 2, (f 3, tt))))

pub returns : goal.returns
returns c =
    let f = lanes_fit w32 _ c.well_formed.0 in
    rw (written_out 4 c.args.self.v c.args.self.four)
    (all_cases _ (λ h. limited_is (f 0)) (λ h. limited_is (f 1)) (λ h. limited_is (f 2)) (λ h. limited_is (f 3)) (λ j h. absurd (let e : ⊥ = omega arith in e)))
