-- Laws of a whole block.
--   transform_line-short     a line whose data are zero from k on
--   clip_coeff_within        what is limited to 16 bits is 16 bits wide
--   intermediate-past       columns from the count on are zero
use mathlib.Core.Path.{◌≡◌, ap, ◌∙◌}
use Prim.Native.Nat.{ℕ, ◌≤◌, ◌<◌}
use native.Mathlib.Omega.{arith}
use borrow.Author.Tests.{le-ltb}
use lib.IntN.{ℤ, pos, negsuc, ◌*ℤ◌, *ℤ-zero}
use Rattle.integers.specs.Clip.{clip3}
use Rattle.integers.specs.Shift.{shift_right, round_shift}
use Rattle.integers.specs.Within.{Within}
use Rattle.integers.proofs.ClipLaws.{clip3_within}
use Rattle.integers.proofs.SumLaws.{sum-short, sum-none}
use Rattle.h265.specs.Range.{coeff_min, coeff_max, clip_coeff}
use Rattle.h265.specs.Transform.{transform_line, columns_read, stage_one_sum, stage_one_value, intermediate}

pub transform_line-short : (t : ℕ → ℕ → ℤ) (n k : ℕ) (y : ℕ → ℤ) (m : ℕ) → k ≤ n → ((i : ℕ) → k ≤ i → i < n → y i ≡ pos 0)
    → transform_line t n y m ≡ transform_line t k y m
unfolding transform_line
transform_line-short t n k y m l h = sum-short n k (λ i. t i m *ℤ y i) l (λ i a b. ap (λ (z : ℤ). t i m *ℤ z) (h i a b) ∙ *ℤ-zero (t i m))

pub clip_coeff_within : (x : ℤ) → Within 32768 (clip_coeff 15 x)
unfolding clip_coeff coeff_min coeff_max
clip_coeff_within x = clip3_within (negsuc 32767) (pos 32767) x (record { le = tt }) (record { within = omega arith }) (record { within = omega arith })

-- ---- columns from the count on
pub intermediate-past : (t : ℕ → ℕ → ℤ) (n nx : ℕ) (d : ℕ → ℕ → ℤ) (m c : ℕ) → nx ≤ c → intermediate t n 15 (columns_read nx d) m c ≡ pos 0
unfolding intermediate stage_one_value stage_one_sum transform_line columns_read clip_coeff coeff_min coeff_max clip3 round_shift shift_right
intermediate-past t n nx d m c h =
    ap (λ (z : ℤ). clip_coeff 15 (round_shift z 7))
    (sum-none n (λ k. t k m *ℤ columns_read nx d k c) (λ k l. rw (le-ltb c nx h) (*ℤ-zero (t k m))))
