-- QP' and the scaling factors. docs/RULES.md, "Quantities" and "Scaling"; H.265, clauses 8.6.1 and 8.6.3.
--   qp_bd_offset b    6 × (B - 8)
--   clip_qp_prime b q  q limited to 0 .. 51 + 6 × (B - 8)
--   qp_prime b qp    QP' = QP + 6 × (B - 8), limited
--   level_scale k    40, 45, 51, 57, 64, 72 for k = 0 .. 5
--   scale_of_qp q     level_scale[QP' mod 6] × 2^(QP' div 6)
use Rattle.std.specs.Prelude.{[], ◌∷◌, ℕ, ◌+◌, ◌-◌, ◌*◌, ◌/◌, ◌%◌, ◌^◌, ℤ, pos, ◌+ℤ◌, get_or}
use Rattle.integers.specs.Clip.{clip3}

unfoldable pub qp_bd_offset : ℕ → ℕ
qp_bd_offset b = 6 * (b - 8)

unfoldable pub clip_qp_prime : ℕ → ℤ → ℤ
clip_qp_prime b q = clip3 (pos 0) (pos (51 + qp_bd_offset b)) q

unfoldable pub qp_prime : ℕ → ℤ → ℤ
qp_prime b qp = clip_qp_prime b (qp +ℤ pos (qp_bd_offset b))

unfoldable pub level_scale : ℕ → ℕ
level_scale k = get_or (40 ∷ 45 ∷ 51 ∷ 57 ∷ 64 ∷ 72 ∷ []) k 0

unfoldable pub scale_of_qp : ℕ → ℕ
scale_of_qp q = level_scale (q % 6) * 2 ^ (q / 6)
