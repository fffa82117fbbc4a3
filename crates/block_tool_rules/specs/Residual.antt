-- Residuals of whole blocks by the block tools, refused calls included. Rows 1, 2, 25, 5, 6, 7, and for the bypass 9 and 19, in this order.
-- Letters: a accumulation, t whether the block is rotated, n size, q QP' as given, b depth, x extended precision.
--   skip_residual_at     transform skip: the residual at an index of a block of levels
--   bypass_residual_at   the bypass, where levels are the residual
--   skip_residual       the answer and the output of a transform skip: how many coefficients were limited, and the residuals in the first n² places
--   bypass_ladder       the refusals of a bypass
--   bypass_residual     its answer and output
use Rattle.std.specs.Prelude.{Bool, cond, List, ℕ, ◌*◌, ltb, ℤ, pos, length, get_or}
use Rattle.integers.specs.Lists.{overwrite}
use Rattle.h265.specs.Range.{log2_size, transform_range}
use Rattle.h265.specs.ScalingFactor.{ScalingList}
use Rattle.h265.specs.Scaling.{scaled_at}
use Rattle.h265.specs.Limited.{limited_count}
use Rattle.h265.specs.TransformSkip.{ts_shift, ts_residual}
use Rattle.refusal.specs.declared.Refusal.{Refusal}
use Rattle.refusal.specs.declared.Refusal.TheVariants.{SizeInvalid, DepthInvalid, RotationSizeInvalid, ListLengthInvalid, InputTooShort, OutputTooShort}
use Rattle.refusal.specs.Condition.{size_refused, depth_refused, rotation_refused, list_refused, block_refused}
pub use Rattle.refusal.specs.Written.{Written, Writes, left, wrote}
use Rattle.coefficients.specs.Outside.{first_outside, refusal_at}
use Rattle.scaling_blocks.specs.Blocks.{CountWritten, left_as_lent, counted}
use Rattle.scaling_values.specs.Given.{entries_of}
use Rattle.block_tool_rules.specs.declared.Accumulate.{Accumulate}
use Rattle.block_tool_rules.specs.Modification.{modified}

unfoldable pub skip_residual_at : Accumulate → Bool → ScalingList → ℕ → ℕ → Bool → ℤ → List ℤ → ℕ → ℤ
skip_residual_at a t list n b x q levels =
    modified a t n (ts_residual (ts_shift (transform_range b x) b (log2_size n))) (scaled_at list n b x q levels)

unfoldable pub bypass_residual_at : Accumulate → Bool → ℕ → List ℤ → ℕ → ℤ
bypass_residual_at a t n levels = modified a t n (λ z. z) (λ i. get_or levels i (pos 0))

unfoldable pub skip_residual : Accumulate → Bool → ScalingList → ℕ → ℤ → ℕ → Bool → List ℤ → List ℤ → CountWritten
skip_residual a t list n q b x levels out =
    cond (size_refused n) (left_as_lent out SizeInvalid)
    (cond (depth_refused b) (left_as_lent out DepthInvalid)
    (cond (rotation_refused t n) (left_as_lent out RotationSizeInvalid)
    (cond (list_refused (entries_of list)) (left_as_lent out ListLengthInvalid)
    (cond (block_refused n (length levels)) (left_as_lent out InputTooShort)
    (cond (block_refused n (length out)) (left_as_lent out OutputTooShort)
    (counted (limited_count list n b x q levels) (overwrite (n * n) (skip_residual_at a t list n b x q levels) out)))))))

-- what `stop` makes of the lowest refusal that applies to a bypass, else `done`
unfoldable pub bypass_ladder : {A : Type 0} → (Refusal → A) → A → Bool → ℕ → ℕ → Bool → List ℤ → ℕ → A
bypass_ladder stop done t n b x levels places =
    let r : ℕ = transform_range b x in
    let first : ℕ = first_outside r n n levels in
    cond (size_refused n) (stop SizeInvalid)
    (cond (depth_refused b) (stop DepthInvalid)
    (cond (rotation_refused t n) (stop RotationSizeInvalid)
    (cond (block_refused n (length levels)) (stop InputTooShort)
    (cond (block_refused n places) (stop OutputTooShort)
    (cond (ltb first (n * n)) (stop (refusal_at r n levels first)) done)))))

unfoldable pub bypass_residual : Accumulate → Bool → ℕ → ℕ → Bool → List ℤ → List ℤ → Written
bypass_residual a t n b x levels out =
    bypass_ladder (left out) (wrote (overwrite (n * n) (bypass_residual_at a t n levels) out)) t n b x levels (length out)
