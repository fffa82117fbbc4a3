-- One level. docs/RULES.md, "Scaling", and rows 1 and 2 of its table; change request R-6.
--   scaled_level   the answer for a level of a block: size n, QP' as given, depth b, flag x
--                 its coefficient, whether the level was limited, and whether after that the result was
use Rattle.std.specs.Prelude.{Bool, cond, ℕ, ℤ, nat_abs}
use Rattle.h265.specs.Range.{log2_size, transform_range}
use Rattle.h265.specs.Quantization.{clip_qp_prime}
use Rattle.h265.specs.Scaling.{bd_shift, scale_level}
use Rattle.h265.specs.Limited.{level_limited, result_limited}
use Rattle.refusal.specs.declared.Refusal.TheVariants.{SizeInvalid, DepthInvalid}
use Rattle.refusal.specs.Condition.{size_refused, depth_refused}
use Rattle.refusal.specs.Outcome.{Outcome, accepted, refused}
use Rattle.scaling_values.specs.declared.ScaledLevel.{ScaledLevel}
use Rattle.scaling.specs.Answers.{no_level}

unfoldable pub scaled_level : ℤ → ℕ → ℕ → ℤ → ℕ → Bool → Outcome ScaledLevel
scaled_level level m n q b x =
    let r : ℕ = transform_range b x in
    let s : ℕ = bd_shift b (log2_size n) r in
    let k : ℕ = nat_abs (clip_qp_prime b q) in
    cond (size_refused n) (refused no_level SizeInvalid)
    (cond (depth_refused b) (refused no_level DepthInvalid)
    (accepted (record { value = scale_level r s k m level; level_limited = level_limited r level; result_limited = result_limited r s k m level })))
