-- Scaling of levels. docs/RULES.md, "Scaling"; H.265, clause 8.6.3, range extensions.
--   bd_shift b l r              s = B + L + 10 - R
--   scaled_value s q m level    (level × m × level_scale[QP' mod 6] × 2^(QP' div 6) + 2^(s-1)) >> s: before the limit
--   scale_level r s q m level   one level, limited, scaled and limited again
--   scaled_at                   the coefficient at an index of a block of levels
use Rattle.std.specs.Prelude.{Bool, List, ℕ, ◌+◌, ◌-◌, ℤ, pos, nat_abs, ◌*ℤ◌, get_or}
use Rattle.integers.specs.Shift.{round_shift}
use Rattle.h265.specs.Range.{log2_size, transform_range, clip_coeff}
use Rattle.h265.specs.Quantization.{clip_qp_prime, scale_of_qp}
use Rattle.h265.specs.ScalingFactor.{ScalingList, scaling_factor}

unfoldable pub bd_shift : ℕ → ℕ → ℕ → ℕ
bd_shift b l r = b + l + 10 - r

-- q is QP', already limited
unfoldable pub scaled_value : ℕ → ℕ → ℕ → ℤ → ℤ
scaled_value s q m level = round_shift (level *ℤ pos m *ℤ pos (scale_of_qp q)) s

unfoldable pub scale_level : ℕ → ℕ → ℕ → ℕ → ℤ → ℤ
scale_level r s q m level = clip_coeff r (scaled_value s q m (clip_coeff r level))

-- the coefficient at index i of a block of levels: size n, depth b, flag x, QP' as given
unfoldable pub scaled_at : ScalingList → ℕ → ℕ → Bool → ℤ → List ℤ → ℕ → ℤ
scaled_at list n b x q levels i =
    let r : ℕ = transform_range b x in
    scale_level r (bd_shift b (log2_size n) r) (nat_abs (clip_qp_prime b q)) (scaling_factor list n i) (get_or levels i (pos 0))
