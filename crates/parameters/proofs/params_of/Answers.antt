-- `parameters::params_of` meets its contract: every number of the record is the definition's, and 64 bits hold it.
use mathlib.Core.Path.{◌≡◌, ap, ◌∙◌}
use Prim.Native.Nat.{◌+◌, ◌*◌, ◌^◌, ◌≤◌}
use native.Mathlib.Nat.{mul-le-mul_left}
use native.Mathlib.Omega.{arith}
use borrow.Author.Rules.{rules, sfits_of}
use lib.IntN.{ℤ, pos, nat_abs, ◌*ℤ◌, pos-*ℤ-pos}
use lib.Pow.{pow_mono}
use Rattle.integers.proofs.MachineLaws.{round_trip}
use Rattle.integers.proofs.BoundLaws.{within_fits, within_pos, within_le}
use Rattle.h265.specs.Quantization.{clip_qp_prime, scale_of_qp}
use Rattle.h265.specs.Scaling.{bd_shift}
use Rattle.h265.proofs.RangeLaws.{transform_range_most, transform_range_depth, coeff_min_within, coeff_max_within, coeff_min_eq, coeff_max_eq}
use Rattle.h265.proofs.QuantizationLaws.{clip_qp_prime_bound, scale_of_qp_bound}
use Rattle.parameters.specs.Parameters.{dequant_of}
use Rattle.parameters.proofs.params_of.Goals as goal
use Rattle.parameters.proofs.params_of.Goals.{After-limited_qp, After-pow2-end, After-scale_of_qp, After-transform_range-range}

-- the range is below what it is taken from, and below 23
range_fits : (c : After-transform_range-range) → (c.transform_range-range.result + 3 ≤ c.args.precision.bit_depth + 10) × (c.transform_range-range.result ≤ 22)
range_fits c =
    rw c.transform_range-range.ensures (
      omega (arith, transform_range_depth c.args.precision.bit_depth c.args.precision.extended c.requires.deep),
      transform_range_most c.args.precision.bit_depth c.args.precision.extended c.requires.shallow,
    )

pub overflow_sub-shift : goal.overflow_sub-shift
overflow_sub-shift c = omega (arith, range_fits (goal.at.overflow_sub-shift c).After-transform_range-range)

pub overflow_sub-shift-2 : goal.overflow_sub-shift-2
overflow_sub-shift-2 c = omega (arith, range_fits (goal.at.overflow_sub-shift-2 c).After-transform_range-range)

pub pow2-end-requires : goal.pow2-end-requires
pow2-end-requires c = omega (arith, range_fits (goal.at.pow2-end-requires c).After-transform_range-range)

pub limited_qp-requires : goal.limited_qp-requires
limited_qp-requires c = search rules

limited_is : (c : After-limited_qp) → c.limited_qp.result ≡ nat_abs (clip_qp_prime c.args.precision.bit_depth c.args.qp_prime)
limited_is c = rw (round_trip c.ranges.qp_prime) at c.limited_qp.ensures

pub scale_of_qp-requires : goal.scale_of_qp-requires
scale_of_qp-requires c =
    rw (limited_is c) (clip_qp_prime_bound c.args.precision.bit_depth c.args.qp_prime c.requires.shallow)

factor_is : (c : After-scale_of_qp) → pos 16 *ℤ c.scale_of_qp.result ≡ pos (16 * scale_of_qp c.limited_qp.result)
factor_is c = ap (λ (z : ℤ). pos 16 *ℤ z) c.scale_of_qp.ensures ∙ pos-*ℤ-pos 16 (scale_of_qp c.limited_qp.result)

end_most : (c : After-pow2-end) → 2 ^ c.transform_range-range.result ≤ 4194304
end_most c = pow_mono (range_fits (goal.at.limited_qp-requires c).After-transform_range-range).1

pub overflow_sub-result : goal.overflow_sub-result
overflow_sub-result c =
    rw (round_trip (sfits_of c.pow2-end.type_inv), coeff_min_eq c.pow2-end.result c.transform_range-range.result c.pow2-end.ensures)
    (within_fits {b = 4194304} tt (within_le (end_most (goal.at.overflow_sub-result c).After-pow2-end) (coeff_min_within c.transform_range-range.result)))

pub overflow_sub-result-2 : goal.overflow_sub-result-2
overflow_sub-result-2 c =
    rw (round_trip (sfits_of c.pow2-end.type_inv), coeff_max_eq c.pow2-end.result c.transform_range-range.result c.pow2-end.ensures)
    (within_fits {b = 4194304} tt (within_le (end_most (goal.at.overflow_sub-result-2 c).After-pow2-end) (coeff_max_within c.transform_range-range.result)))

pub overflow_mul-result : goal.overflow_mul-result
overflow_mul-result c =
    rw (round_trip (sfits_of c.scale_of_qp.type_inv), factor_is c)
    (within_fits {b = 16 * (72 * 2 ^ 16)} tt (within_pos (mul-le-mul_left 16 (scale_of_qp_bound c.limited_qp.result (scale_of_qp-requires (goal.at.overflow_mul-result c).After-limited_qp)))))

pub returns : goal.returns
unfolding dequant_of bd_shift
returns c =
    rw (
      round_trip (overflow_mul-result c),
      round_trip (overflow_sub-result c),
      round_trip (overflow_sub-result-2 c),
      round_trip (sfits_of c.scale_of_qp.type_inv),
      round_trip (sfits_of c.pow2-half.type_inv),
      round_trip (sfits_of c.pow2-end.type_inv),
      factor_is c,
      limited_is (goal.at.returns c).After-limited_qp,
      coeff_min_eq c.pow2-end.result c.transform_range-range.result c.pow2-end.ensures,
      coeff_max_eq c.pow2-end.result c.transform_range-range.result c.pow2-end.ensures,
      c.pow2-half.ensures,
      c.transform_range-range.ensures,
    )
