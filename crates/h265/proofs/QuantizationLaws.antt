-- Laws of QP' and of the scaling factor that it gives.
--   clip_qp_prime_bound, qp_prime_bound   a limited QP' is at most 99 at every depth
--   scale_of_qp_bound     the factor of a limited QP' is at most 72 × 2^16
--   qp_prime_high, -low, -mid   QP' of a QP above 51, below -6 × (B - 8), and in between
use mathlib.Core.Path.{◌≡◌}
use mathlib.Core.Bool.{Bool, true, ◌&&◌}
use mathlib.Core.List.{List, [], ◌∷◌}
use Prim.Native.Nat.{ℕ, zero, suc, ◌+◌, ◌*◌, ◌-◌, ◌/◌, ◌%◌, ◌^◌, ◌≤◌}
use native.Mathlib.Nat.{mul-le-mul}
use native.Mathlib.Omega.{arith}
use lib.Pow.{pow_mono}
use lib.IntN.{ℤ, pos, nat_abs, neg_ℤ, ◌+ℤ◌}
use lib.Dec.{T, leb, leb→le}
use lib.ListN.{get_or}
use lib.Signed.{◌≤ℤ◌, ◌<ℤ◌}
use mir.Facts.{and_yes}
use Rattle.integers.proofs.LinearLaws.{parts_add, parts_neg, le_in, le_out, lt_in, lt_out}
use Rattle.integers.proofs.BoundLaws.{within_pos}
use Rattle.integers.proofs.ClipLaws.{clip3_low, clip3_high, clip3_id, clip3_within}
use Rattle.h265.specs.Quantization.{qp_bd_offset, clip_qp_prime, qp_prime, level_scale, scale_of_qp}

pub clip_qp_prime_bound : (b : ℕ) (q : ℤ) → b ≤ 16 → nat_abs (clip_qp_prime b q) ≤ 99
unfolding clip_qp_prime qp_bd_offset
clip_qp_prime_bound b q h =
    (clip3_within {b = 99} (pos 0) (pos (51 + 6 * (b - 8))) q (le_out (pos 0) (pos (51 + 6 * (b - 8))) (omega arith)) (within_pos (omega arith)) (within_pos (omega arith))).within

pub qp_prime_bound : (b : ℕ) (q : ℤ) → b ≤ 16 → nat_abs (qp_prime b q) ≤ 99
unfolding qp_prime
qp_prime_bound b q h = clip_qp_prime_bound b (q +ℤ pos (qp_bd_offset b)) h

all≤ : ℕ → List ℕ → Bool
all≤ b [] = true
all≤ b (x ∷ xs) = leb x b && all≤ b xs

all≤-get_or : (b : ℕ) (xs : List ℕ) → T (all≤ b xs) → (k : ℕ) → get_or xs k 0 ≤ b
unfolding all≤
all≤-get_or b [] t k = omega arith
all≤-get_or b (x ∷ xs) t zero = leb→le x b (and_yes (leb x b) (all≤ b xs) t).0
all≤-get_or b (x ∷ xs) t (suc k) = all≤-get_or b xs (and_yes (leb x b) (all≤ b xs) t).1 k

level_scale_bound : (k : ℕ) → level_scale k ≤ 72
unfolding level_scale all≤
level_scale_bound k = all≤-get_or 72 (40 ∷ 45 ∷ 51 ∷ 57 ∷ 64 ∷ 72 ∷ []) tt k

pub scale_of_qp_bound : (q : ℕ) → q ≤ 99 → scale_of_qp q ≤ 72 * 2 ^ 16
unfolding scale_of_qp
scale_of_qp_bound q h = mul-le-mul (level_scale_bound (q % 6)) (pow_mono {i = q / 6} {j = 16} (omega arith))

-- ---- QP' by where QP lies
module _ (b : ℕ) (q : ℤ) where
  pub qp_prime_high : pos 51 <ℤ q → qp_prime b q ≡ pos (51 + qp_bd_offset b)
  unfolding qp_prime clip_qp_prime
  qp_prime_high h =
      let o : ℕ = qp_bd_offset b in
      clip3_high (pos 0) (pos (51 + o)) (q +ℤ pos o)
      (le_out (pos 0) (q +ℤ pos o) (omega (arith, lt_in h, parts_add q (pos o))))
      (lt_out (pos (51 + o)) (q +ℤ pos o) (omega (arith, lt_in h, parts_add q (pos o))))

  pub qp_prime_low : q <ℤ neg_ℤ (pos (qp_bd_offset b)) → qp_prime b q ≡ pos 0
  unfolding qp_prime clip_qp_prime
  qp_prime_low h =
      let o : ℕ = qp_bd_offset b in
      clip3_low (pos 0) (pos (51 + o)) (q +ℤ pos o)
      (lt_out (q +ℤ pos o) (pos 0) (omega (arith, lt_in h, parts_add q (pos o), parts_neg (pos o))))

  pub qp_prime_mid : neg_ℤ (pos (qp_bd_offset b)) ≤ℤ q → q ≤ℤ pos 51 → qp_prime b q ≡ q +ℤ pos (qp_bd_offset b)
  unfolding qp_prime clip_qp_prime
  qp_prime_mid h k =
      let o : ℕ = qp_bd_offset b in
      clip3_id (pos 0) (pos (51 + o)) (q +ℤ pos o)
      (le_out (pos 0) (q +ℤ pos o) (omega (arith, le_in h, parts_add q (pos o), parts_neg (pos o))))
      (le_out (q +ℤ pos o) (pos (51 + o)) (omega (arith, le_in k, parts_add q (pos o))))
