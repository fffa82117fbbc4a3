-- Sizes and the range of coefficients. docs/RULES.md, "Quantities"; H.265, clause 7.4.3.2, range extensions.
-- Letters here and in every other file: n size, l log2 n, b depth, x extended precision, r range R.
--   is_size n          n is 4, 8, 16 or 32
--   log2_size n        log2 of a size
--   transform_range    R: 15, and with extended precision the larger of 15 and B + 6
--   coeff_min, coeff_max r   the ends of the range: -2^R and 2^R - 1
--   clip_coeff r z     z limited to the range
--   outside_range r z  z lies outside the range
use Rattle.std.specs.Prelude.{Bool, ◌||◌, cond, ℕ, ◌+◌, max, eqb, ℤ, pos, neg_ℤ, ◌-ℤ◌}
use Rattle.std.specs.Int.Signed.{lt_z}
use Rattle.integers.specs.Clip.{clip3}
use Rattle.integers.specs.Shift.{pow2}

abbrev pub is_size : ℕ → Bool
is_size n = eqb n 4 || (eqb n 8 || (eqb n 16 || eqb n 32))

unfoldable pub log2_size : ℕ → ℕ
log2_size n = cond (eqb n 4) 2 (cond (eqb n 8) 3 (cond (eqb n 16) 4 5))

unfoldable pub transform_range : ℕ → Bool → ℕ
transform_range b x = cond x (max 15 (b + 6)) 15

unfoldable pub coeff_min : ℕ → ℤ
coeff_min r = neg_ℤ (pow2 r)

unfoldable pub coeff_max : ℕ → ℤ
coeff_max r = pow2 r -ℤ pos 1

unfoldable pub clip_coeff : ℕ → ℤ → ℤ
clip_coeff r z = clip3 (coeff_min r) (coeff_max r) z

unfoldable pub outside_range : ℕ → ℤ → Bool
outside_range r z = lt_z z (coeff_min r) || lt_z (coeff_max r) z
