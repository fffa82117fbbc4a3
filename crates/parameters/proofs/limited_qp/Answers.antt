-- `parameters::limited_qp` meets its contract: `clamp` is the limit, and what is not negative keeps its size.
use mathlib.Core.Path.{◌∙◌}
use Prim.Native.Nat.{◌+◌, ◌≤◌}
use native.Mathlib.Omega.{arith}
use lib.IntN.{pos}
use mir.Syntax.{w32}
use mir.Val.{SFits}
use mir.Facts.{to_z_pos}
use Rattle.integers.proofs.LinearLaws.{le_out}
use Rattle.integers.proofs.MachineLaws.{round_trip}
use Rattle.integers.proofs.ClipLaws.{clamp_clips}
use Rattle.h265.specs.Quantization.{qp_bd_offset, clip_qp_prime}
use Rattle.parameters.proofs.ParametersLaws.{offset_small}
use Rattle.parameters.proofs.limited_qp.Goals as goal

pub returns : goal.returns
unfolding clip_qp_prime
returns c =
    let o = c.offset_of-top.result in
    let small : o ≤ 48 = rw c.offset_of-top.ensures (offset_small c.args.bit_depth c.requires.1) in
    let top = to_z_pos w32 {n = 51 + o} (omega (arith, small)) in
    let e = (rw (round_trip c.ranges.qp_prime, top, c.offset_of-top.ensures) at c.clamp.ensures.value) ∙ clamp_clips (pos 0) (pos (51 + qp_bd_offset c.args.bit_depth)) c.args.qp_prime (le_out _ _ (omega arith)) in
    let f : SFits w32 c.clamp.result = record { sfits = c.clamp.type_inv } in
    rw (round_trip f, e)
