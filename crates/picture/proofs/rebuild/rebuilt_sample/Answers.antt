-- `picture::rebuild::rebuilt_sample` meets its contract: the prediction and the residual limited to what it leaves are the limited sum.
use mathlib.Core.Path.{ap, ◌∙◌}
use Prim.Native.Nat.{ℕ, ◌≤◌}
use native.Mathlib.Omega.{arith}
use lib.IntN.{ℤ, pos, nat_abs, neg_ℤ, ◌+ℤ◌, ◌-ℤ◌}
use lib.Signed.{◌≤ℤ◌}
use mir.Facts.{to_z_pos}
use mir.Syntax.{w32}
use mir.Val.{SFits}
use Rattle.integers.specs.Clip.{clip3}
use Rattle.integers.proofs.LinearLaws.{parts_add, parts_neg, le_out}
use Rattle.integers.proofs.MachineLaws.{round_trip}
use Rattle.integers.proofs.BoundLaws.{within_out, within_fits}
use Rattle.integers.proofs.ClipLaws.{clamp_clips, clip3_within}
use Rattle.picture.specs.Samples.{rebuilt_sample}
use Rattle.picture.proofs.SamplesLaws.{rebuilt_moved}
use Rattle.picture.proofs.rebuild.rebuilt_sample.Goals as goal

-- what the prediction leaves on either side
left_fits : (t p : ℕ) → t ≤ 65535 → p ≤ 65535 → SFits w32 (pos t -ℤ pos p)
left_fits t p h k = within_fits {b = 65535} tt (within_out (pos t -ℤ pos p) (omega (arith, parts_add (pos t) (neg_ℤ (pos p)), parts_neg (pos p))))

left_order : (t p : ℕ) → (pos 0 -ℤ pos p) ≤ℤ (pos t -ℤ pos p)
left_order t p = le_out (pos 0 -ℤ pos p) (pos t -ℤ pos p) (omega (arith, parts_add (pos 0) (neg_ℤ (pos p)), parts_add (pos t) (neg_ℤ (pos p)), parts_neg (pos p)))

sample_fits : (t : ℕ) (z : ℤ) → t ≤ 65535 → SFits w32 (clip3 (pos 0) (pos t) z)
sample_fits t z h =
    within_fits {b = 65535} tt (clip3_within (pos 0) (pos t) z (le_out (pos 0) (pos t) (omega arith)) (record { within = omega arith }) (record { within = omega (arith, h) }))

pub returns : goal.returns
unfolding rebuilt_sample
returns c =
    let a = c.args in
    let u = c.ranges.prediction.fits in
    let v = c.ranges.top.fits in
    let p = to_z_pos w32 {n = a.prediction} (omega (arith, u)) in
    let t = to_z_pos w32 {n = a.top} (omega (arith, v)) in
    let f : SFits w32 c.clamp.result = record { sfits = c.clamp.type_inv } in
    let e =
    (rw (p, t, round_trip (left_fits 0 a.prediction (omega arith) (omega (arith, u))), round_trip (left_fits a.top a.prediction (omega (arith, v)) (omega (arith, u))), round_trip c.ranges.residual) at c.clamp.ensures.value)
    ∙ clamp_clips (pos 0 -ℤ pos a.prediction) (pos a.top -ℤ pos a.prediction) a.residual (left_order a.top a.prediction) in
    let g = ap (λ (x : ℤ). pos a.prediction +ℤ x) e ∙ rebuilt_moved a.top a.prediction a.residual c.requires in
    rw (p, round_trip f, g) (ap nat_abs (round_trip (sample_fits a.top (pos a.prediction +ℤ a.residual) (omega (arith, v)))))
