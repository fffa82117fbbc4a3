-- `vectors::Values::between` meets its contract: each lane is limited.
use mathlib.Core.Path.{refl}
use native.Mathlib.Omega.{arith}
use mir.Syntax.{w16}
use Rattle.vectors.proofs.LanesLaws.{lanes_fit, written_out, all_cases}
use Rattle.vectors.proofs.ClampLaws.{bounded_is}
use Rattle.vectors.proofs.Values.between.Goals as goal

pub invariant_of-result : goal.invariant_of-result
invariant_of-result c = rw (written_out 4 c.args.self.v c.args.self.four) (record { four = refl })

pub returns : goal.returns
returns c =
    let f = lanes_fit w16 _ c.well_formed.0 in
    let u = c.ranges.most in
    let o = c.requires in
    rw (written_out 4 c.args.self.v c.args.self.four)
    (all_cases _ (λ h. bounded_is u (f 0) o) (λ h. bounded_is u (f 1) o) (λ h. bounded_is u (f 2) o) (λ h. bounded_is u (f 3) o) (λ j h. absurd (let e : ⊥ = omega arith in e)))
