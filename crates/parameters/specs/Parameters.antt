-- What the functions of this crate answer, for every value of every argument: refusals lowest number first, then the values of clause 8.6.
-- docs/RULES.md, "Quantities", "Scaling", "Transform skip".
--   max_log2_transform_dynamic_range b x      R
--   qp_bd_offset_of b, qp_prime_of qp b        6 × (B - 8); QP'
--   dequant_params n q b x                 factor 16 × level_scale[QP' mod 6] × 2^(QP' div 6), rounding, shift s, ends of the range
--   transform_skip_params n q b x           the same, with t and its rounding
use Rattle.std.specs.Prelude.{Bool, cond, ℕ, zero, suc, ◌-◌, ◌*◌, ◌≤◌, ℤ, pos, negsuc, nat_abs}
use Rattle.integers.specs.Shift.{pow2}
use Rattle.h265.specs.Range.{log2_size, transform_range, coeff_min, coeff_max}
use Rattle.h265.specs.Quantization.{qp_bd_offset, clip_qp_prime, qp_prime, scale_of_qp}
use Rattle.h265.specs.Scaling.{bd_shift}
use Rattle.h265.specs.TransformSkip.{ts_shift}
use Rattle.refusal.specs.declared.Refusal.TheVariants.{SizeInvalid, DepthInvalid}
use Rattle.refusal.specs.Condition.{size_refused, depth_refused}
use Rattle.refusal.specs.Outcome.{Outcome, accepted, refused}
use Rattle.parameters.specs.declared.QpPrime.{QpPrime}
use Rattle.parameters.specs.declared.DequantParams.{DequantParams}
use Rattle.parameters.specs.declared.TransformSkipParams.{TransformSkipParams}
use Rattle.parameters.specs.Answers.{no_qp_prime, no_dequant, no_transform_skip}

unfoldable pub max_log2_transform_dynamic_range : ℕ → Bool → Outcome ℕ
max_log2_transform_dynamic_range b x = cond (depth_refused b) (refused 0 DepthInvalid) (accepted (transform_range b x))

unfoldable pub qp_bd_offset_of : ℕ → Outcome ℕ
qp_bd_offset_of b = cond (depth_refused b) (refused 0 DepthInvalid) (accepted (qp_bd_offset b))

unfoldable pub qp_prime_of : ℤ → ℕ → Outcome QpPrime
qp_prime_of qp b = cond (depth_refused b) (refused no_qp_prime DepthInvalid) (accepted (record { 0 = qp_prime b qp }))

-- by L, which is log2 of the size
unfoldable pub dequant_of : ℕ → ℤ → ℕ → Bool → DequantParams
dequant_of l q b x =
    let r : ℕ = transform_range b x in
    let s : ℕ = bd_shift b l r in
    record {
      factor = pos (16 * scale_of_qp (nat_abs (clip_qp_prime b q)));
      add = pow2 (s - 1);
      shift = s;
      clip_min = coeff_min r;
      clip_max = coeff_max r;
    }

unfoldable pub dequant_params : ℕ → ℤ → ℕ → Bool → Outcome DequantParams
dequant_params n q b x =
    cond (size_refused n) (refused no_dequant SizeInvalid)
    (cond (depth_refused b) (refused no_dequant DepthInvalid)
    (accepted (dequant_of (log2_size n) q b x)))

-- 2^(t-1) where t > 0, else 0
unfoldable pub ts_add : ℤ → ℤ
ts_add (pos zero) = pos 0
ts_add (pos (suc t)) = pow2 t
ts_add (negsuc t) = pos 0

unfoldable pub transform_skip_of : ℕ → ℤ → ℕ → Bool → TransformSkipParams
transform_skip_of l q b x =
    let t : ℤ = ts_shift (transform_range b x) b l in
    record { dequant = dequant_of l q b x; tr_add = ts_add t; tr_shift = t }

unfoldable pub transform_skip_params : ℕ → ℤ → ℕ → Bool → Outcome TransformSkipParams
transform_skip_params n q b x =
    cond (size_refused n) (refused no_transform_skip SizeInvalid)
    (cond (depth_refused b) (refused no_transform_skip DepthInvalid)
    (accepted (transform_skip_of (log2_size n) q b x)))

-- what the functions below the refusals rely on
pub record KnownSize (l b : ℕ) : Type 0 where
  pub least : 2 ≤ l
  pub most : l ≤ 5
  pub deep : 8 ≤ b
  pub shallow : b ≤ 16
