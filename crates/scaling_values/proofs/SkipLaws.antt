-- Laws of one residual of transform skip.
--   ts_residual-left, -right         the residual as the code works it out, for t < 0 and for t ≥ 0
--   ts_add_within                    the rounding is at most 2^5
--   ts_residual_fits                 for t > 0 the residual fits where the coefficient does, at every width
use mathlib.Core.Path.{◌≡◌, refl, sym, ap, subst, ◌∙◌}
use Prim.Native.Nat.{ℕ, zero, suc, ◌+◌, ◌-◌, ◌*◌, ◌^◌, ◌≤◌, ◌<◌}
use native.Mathlib.Nat.{mul-le-mul_left, mul_comm, suc-mul, pow-succ'}
use native.Mathlib.Omega.{arith}
use lib.Pow.{pow_mono, pow_pos}
use lib.IntN.{ℤ, pos, negsuc, nat_abs, ◌+ℤ◌, ◌*ℤ◌, +ℤ_idr}
use lib.Signed.{shr_z, ◌≤ℤ◌, ◌<ℤ◌}
use mir.Syntax.{Width}
use mir.Val.{SFits}
use Rattle.integers.specs.Shift.{pow2, shift_right, round_shift}
use Rattle.integers.specs.Within.{Within}
use Rattle.integers.proofs.LinearLaws.{pos_part, neg_part, parts_add, le_in, lt_in}
use Rattle.integers.proofs.OrderLaws.{Floor, shr_floor}
use Rattle.integers.proofs.MachineLaws.{sfits_pos_part, sfits_neg_part}
use Rattle.integers.proofs.BoundLaws.{within_pos}
use Rattle.integers.proofs.ShiftLaws.{shift_right_zero}
use Rattle.h265.specs.TransformSkip.{ts_residual}
use Rattle.parameters.specs.Parameters.{ts_add}

pub ts_residual-left : (t c : ℤ) → t <ℤ pos 0 → c *ℤ pow2 (nat_abs t) ≡ ts_residual t c
unfolding ts_residual
ts_residual-left (pos n) c h = absurd (let e : ⊥ = omega (arith, lt_in h) in e)
ts_residual-left (negsuc n) c h = refl

before : (n : ℕ) → n ≡ suc n - 1
before n = omega arith

pub ts_residual_right : (t c : ℤ) → pos 0 ≤ℤ t → shr_z (c +ℤ ts_add t) (2 ^ nat_abs t) ≡ ts_residual t c
unfolding ts_residual ts_add round_shift shift_right
ts_residual_right (pos zero) c h = ap (λ (z : ℤ). shr_z z 1) (+ℤ_idr c) ∙ shift_right_zero c
ts_residual_right (pos (suc n)) c h = ap (λ (k : ℕ). shr_z (c +ℤ pow2 k) (2 ^ suc n)) (before n)
ts_residual_right (negsuc n) c h = absurd (let e : ⊥ = omega (arith, le_in h) in e)

pub ts_add_within : (t : ℤ) → Within 6 t → Within 32 (ts_add t)
unfolding ts_add
ts_add_within (pos zero) f = within_pos (omega arith)
ts_add_within (pos (suc n)) f = within_pos (pow_mono {i = n} {j = 5} (omega (arith, f.within)))
ts_add_within (negsuc n) f = within_pos (omega arith)

-- (c + m) >> .. by 2m: the result lies between 0 and c, or is 0 or 1 less
round_fits : {w : Width} (c q : ℤ) (m : ℕ) → 1 ≤ m → SFits w c
    → (2 * m * pos_part q + neg_part (c +ℤ pos m) ≤ pos_part (c +ℤ pos m) + 2 * m * neg_part q)
    → (pos_part (c +ℤ pos m) + 2 * m * neg_part q < 2 * m * pos_part q + neg_part (c +ℤ pos m) + 2 * m)
    → SFits w q
round_fits c (pos zero) m h f lo hi = record { sfits = omega (arith, sfits_pos_part f) }
round_fits c (pos (suc a)) m h f lo hi =
    record { sfits = omega (arith, sfits_pos_part f, parts_add c (pos m), mul-le-mul_left a h, mul_comm (2 * m) (suc a), mul_comm m a, suc-mul a (2 * m)) }
round_fits c (negsuc a) m h f lo hi =
    record { sfits = omega (arith, sfits_neg_part f, parts_add c (pos m), mul-le-mul_left a h, mul_comm (2 * m) (suc a), suc-mul a (2 * m)) }

pub ts_residual_fits : {w : Width} (t c : ℤ) → pos 1 ≤ℤ t → SFits w c → SFits w (ts_residual t c)
unfolding ts_residual round_shift shift_right
ts_residual_fits (pos zero) c h f = absurd (let e : ⊥ = omega (arith, le_in h) in e)
ts_residual_fits {w} (pos (suc n)) c h f =
    subst (λ (k : ℕ). SFits w (shr_z (c +ℤ pow2 k) (2 ^ suc n))) (before n)
    (subst (λ (m : ℕ). SFits w (shr_z (c +ℤ pow2 n) m)) (sym (pow-succ' 2 n)) (halves (shr_floor (c +ℤ pow2 n) (2 * 2 ^ n) (omega (arith, pow_pos n)))))
  where
    halves : Floor (c +ℤ pow2 n) (2 * 2 ^ n) (shr_z (c +ℤ pow2 n) (2 * 2 ^ n)) → SFits w (shr_z (c +ℤ pow2 n) (2 * 2 ^ n))
    halves k = round_fits c (shr_z (c +ℤ pow2 n) (2 * 2 ^ n)) (2 ^ n) (pow_pos n) f k.0 k.1
ts_residual_fits (negsuc n) c h f = absurd (let e : ⊥ = omega (arith, le_in h) in e)
