-- `parameters::qp_prime_of` meets its contract: QP limited to -offset .. 51 is QP' without the offset, and the sum cannot wrap.
use mathlib.Core.Path.{◌≡◌, sym, ap, ◌∙◌}
use Prim.Native.Nat.{ℕ, ◌≤◌}
use native.Mathlib.Omega.{arith}
use lib.IntN.{ℤ, pos, neg_ℤ, ◌+ℤ◌, ◌-ℤ◌, pos-+ℤ-pos, +ℤ_idl}
use lib.Signed.{◌≤ℤ◌}
use mir.Syntax.{w32}
use mir.Val.{to_z, SFits}
use mir.Facts.{to_z_pos}
use Rattle.integers.specs.Clip.{clip3}
use Rattle.integers.proofs.LinearLaws.{parts_ext, parts_add, parts_neg, le_out}
use Rattle.integers.proofs.MachineLaws.{round_trip, sfits_abs, abs_neg}
use Rattle.integers.proofs.ClipLaws.{clip3_cases, clamp_clips}
use Rattle.h265.specs.Quantization.{qp_bd_offset, qp_prime}
use Rattle.h265.proofs.QuantizationLaws.{qp_prime_high, qp_prime_low, qp_prime_mid, qp_prime_bound}
use Rattle.parameters.proofs.ParametersLaws.{offset_small}
use Rattle.parameters.proofs.qp_prime_of.Goals as goal
use Rattle.parameters.proofs.qp_prime_of.Goals.{After-clamp, After-offset_of-offset}

small : (c : After-offset_of-offset) → c.offset_of-offset.result ≤ 48
small c = rw c.offset_of-offset.ensures (offset_small c.args.bit_depth c.requires.1)

offset_is : (c : After-offset_of-offset) → to_z w32 c.offset_of-offset.result ≡ pos (qp_bd_offset c.args.bit_depth)
offset_is c = to_z_pos w32 (omega (arith, small c)) ∙ ap pos c.offset_of-offset.ensures

pub overflow_cast-offset : goal.overflow_cast-offset
overflow_cast-offset c = sfits_abs (omega (arith, small c))

bottom_is : (c : After-offset_of-offset) → pos 0 -ℤ to_z w32 c.offset_of-offset.result ≡ neg_ℤ (pos (qp_bd_offset c.args.bit_depth))
bottom_is c = ap (λ (z : ℤ). pos 0 -ℤ z) (offset_is c) ∙ +ℤ_idl (neg_ℤ (pos (qp_bd_offset c.args.bit_depth)))

bottom_fits : (c : After-offset_of-offset) → SFits w32 (pos 0 -ℤ to_z w32 c.offset_of-offset.result)
bottom_fits c =
    let b = c.args.bit_depth in
    rw (bottom_is c) (sfits_abs (omega (arith, abs_neg (pos (qp_bd_offset b)), offset_small b c.requires.1)))

pub overflow_sub-offset : goal.overflow_sub-offset
overflow_sub-offset c = bottom_fits c

below_top : (o : ℕ) → neg_ℤ (pos o) ≤ℤ pos 51
below_top o = le_out (neg_ℤ (pos o)) (pos 51) (omega (arith, parts_neg (pos o)))

pub clamp-requires : goal.clamp-requires
clamp-requires c =
    let t = (goal.at.clamp-requires c).After-offset_of-offset in
    rw (round_trip (bottom_fits t), bottom_is t) (below_top (qp_bd_offset c.args.bit_depth))

-- QP' by QP limited first
clipped_first : (b : ℕ) (q : ℤ) → clip3 (neg_ℤ (pos (qp_bd_offset b))) (pos 51) q +ℤ pos (qp_bd_offset b) ≡ qp_prime b q
clipped_first b q =
    let o : ℕ = qp_bd_offset b in
    let none : neg_ℤ (pos o) +ℤ pos o ≡ pos 0 =
    parts_ext (neg_ℤ (pos o) +ℤ pos o) (pos 0) (omega (arith, parts_add (neg_ℤ (pos o)) (pos o), parts_neg (pos o))) in
    clip3_cases (λ (z : ℤ). z +ℤ pos o ≡ qp_prime b q) (neg_ℤ (pos o)) (pos 51) q
    (λ h. none ∙ sym (qp_prime_low b q h))
    (λ h k. pos-+ℤ-pos 51 o ∙ sym (qp_prime_high b q k))
    (λ h k. sym (qp_prime_mid b q h k))

sum_is : (c : After-clamp) → c.clamp.result +ℤ to_z w32 c.offset_of-offset.result ≡ qp_prime c.args.bit_depth c.args.qp
sum_is c =
    let t = (goal.at.After-clamp c).After-offset_of-offset in
    let o : ℕ = qp_bd_offset c.args.bit_depth in
    let e = rw (round_trip (bottom_fits t), bottom_is t, round_trip c.ranges.qp) at c.clamp.ensures.value in
    rw (offset_is t, e, clamp_clips (neg_ℤ (pos o)) (pos 51) c.args.qp (below_top o)) (clipped_first c.args.bit_depth c.args.qp)

met : (c : After-clamp) → SFits w32 c.clamp.result
met c = record { sfits = c.clamp.type_inv }

pub overflow_add-result : goal.overflow_add-result
overflow_add-result c =
    rw (round_trip (met c), sum_is c) (sfits_abs (omega (arith, qp_prime_bound c.args.bit_depth c.args.qp c.requires.1)))

pub returns : goal.returns
returns c = rw (round_trip (overflow_add-result c), round_trip (met c)) (sum_is c)
