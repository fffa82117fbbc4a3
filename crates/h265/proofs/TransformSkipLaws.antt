-- Transform skip by one shift is the clause's two shifts.
--   round_shift-left        a shift to the left by no less than to the right is exact
--   round_shift_right       one to the right by more is the rounding shift by the difference
--   skip_is_the_clauses    the statement
use mathlib.Core.Path.{◌≡◌, sym, ap, ap₂, ◌∙◌, subst}
use mathlib.Core.Bool.{Bool, true, false}
use Prim.Native.Nat.{ℕ, zero, suc, ◌+◌, ◌-◌, ◌*◌, ◌^◌, ◌≤◌, ◌<◌}
use native.Mathlib.Nat.{lt_of_mul-lt-mul_left, mul_comm, div-eq_of_lt}
use native.Mathlib.Omega.{arith}
use lib.Pow.{pow_pos, pow-add, pow-lt}
use lib.IntN.{ℤ, pos, negsuc, neg_ℤ, ◌+ℤ◌, ◌-ℤ◌, ◌*ℤ◌, +ℤ_comm, +ℤ_idl, *ℤ_comm, pos-*ℤ-pos}
use lib.Signed.{shr_z, ◌≤ℤ◌, ≤ℤ_refl}
use Rattle.integers.specs.Shift.{pow2, shift_right, round_shift}
use Rattle.integers.proofs.LinearLaws.{pos_part, neg_part, parts_ext, parts_add, parts_neg, parts_mul, le_in, le_out}
use Rattle.integers.proofs.OrderLaws.{*ℤ_assoc, *ℤ-+ℤ, one-*ℤ, ≤ℤ_antisym, *ℤ_mono, le_shr_z, shr_shift}
use Rattle.h265.specs.Range.{log2_size, transform_range}
use Rattle.h265.specs.TransformSkip.{ts_shift, ts_residual, clause_bd_shift, clause_ts_shift, clause_residual, SkipIsTheClauses}

*ℤ_cancel : {x y : ℤ} (k : ℕ) → 0 < k → (pos k *ℤ x) ≤ℤ (pos k *ℤ y) → x ≤ℤ y
*ℤ_cancel {x} {y} k h le =
    le_out x y
    (omega (
      arith,
      lt_of_mul-lt-mul_left k {m = pos_part x + neg_part y} {n = suc (pos_part y + neg_part x)}
          (omega (arith, le_in le, parts_mul (pos k) x, parts_mul (pos k) y)),
    ))

-- m × k times q is k times m times q
factors : (k m : ℕ) (q : ℤ) → pos (m * k) *ℤ q ≡ pos k *ℤ (pos m *ℤ q)
factors k m q = ap (λ (p : ℕ). pos p *ℤ q) (mul_comm m k) ∙ *ℤ_assoc (pos k) (pos m) q

shr_z_multiple : (y : ℤ) (k m : ℕ) → 0 < k → 0 < m → 0 < m * k → shr_z (pos k *ℤ y) (m * k) ≡ shr_z y m
shr_z_multiple y k m hk hm hmk = ≤ℤ_antisym ((le_shr_z p y m hm).0 (*ℤ_cancel k hk down)) ((le_shr_z q (pos k *ℤ y) (m * k) hmk).0 up)
  where
    p : ℤ
    p = shr_z (pos k *ℤ y) (m * k)

    q : ℤ
    q = shr_z y m

    down : (pos k *ℤ (pos m *ℤ p)) ≤ℤ (pos k *ℤ y)
    down = subst (λ (z : ℤ). z ≤ℤ (pos k *ℤ y)) (factors k m p) ((le_shr_z p (pos k *ℤ y) (m * k) hmk).1 (≤ℤ_refl p))

    up : (pos (m * k) *ℤ q) ≤ℤ (pos k *ℤ y)
    up = subst (λ (z : ℤ). z ≤ℤ (pos k *ℤ y)) (sym (factors k m q)) (*ℤ_mono k ((le_shr_z q y m hm).1 (≤ℤ_refl q)))

pow2_add : (i j : ℕ) → pow2 (i + j) ≡ pow2 i *ℤ pow2 j
pow2_add i j = ap pos (pow-add 2 i j) ∙ sym (pos-*ℤ-pos (2 ^ i) (2 ^ j))

-- c × 2^k + 2^(d + k - 1) is 2^k × (c + 2^(d - 1))
pub round_shift_right : (c : ℤ) (d k : ℕ) → 1 ≤ d → round_shift (c *ℤ pow2 k) (d + k) ≡ round_shift c d
unfolding round_shift shift_right
round_shift_right c d k h =
    ap₂ (λ (y : ℤ) (m : ℕ). shr_z y m) together (pow-add 2 d k)
    ∙ shr_z_multiple (c +ℤ pow2 (d - 1)) (2 ^ k) (2 ^ d) (pow_pos k) (pow_pos d) (subst (λ (m : ℕ). 0 < m) (pow-add 2 d k) (pow_pos (d + k)))
  where
    half : pow2 (d + k - 1) ≡ pow2 k *ℤ pow2 (d - 1)
    half = ap pow2 (omega arith) ∙ pow2_add k (d - 1)

    together : c *ℤ pow2 k +ℤ pow2 (d + k - 1) ≡ pow2 k *ℤ (c +ℤ pow2 (d - 1))
    together = ap₂ (λ (y z : ℤ). y +ℤ z) (*ℤ_comm c (pow2 k)) half ∙ sym (*ℤ-+ℤ (pow2 k) c (pow2 (d - 1)))

pub round_shift-left : (c : ℤ) (e s : ℕ) → 1 ≤ s → round_shift (c *ℤ pow2 (e + s)) s ≡ c *ℤ pow2 e
unfolding round_shift shift_right
round_shift-left c e s h =
    ap (λ (y : ℤ). shr_z y (2 ^ s)) (ap (λ (y : ℤ). y +ℤ pow2 (s - 1)) whole ∙ +ℤ_comm (pow2 s *ℤ (c *ℤ pow2 e)) (pow2 (s - 1)))
    ∙ shr_shift (pow2 (s - 1)) (c *ℤ pow2 e) (2 ^ s) (pow_pos s)
    ∙ ap (λ (y : ℤ). y +ℤ c *ℤ pow2 e) (ap pos (div-eq_of_lt (pow-lt {i = s - 1} {j = s} (omega arith))))
    ∙ +ℤ_idl (c *ℤ pow2 e)
  where
    whole : c *ℤ pow2 (e + s) ≡ pow2 s *ℤ (c *ℤ pow2 e)
    whole = ap (λ (y : ℤ). c *ℤ y) (pow2_add e s) ∙ sym (*ℤ_assoc c (pow2 e) (pow2 s)) ∙ *ℤ_comm (c *ℤ pow2 e) (pow2 s)

by_difference : (c : ℤ) (s k : ℕ) (t : ℤ) → 1 ≤ s → pos s ≡ t +ℤ pos k → ts_residual t c ≡ round_shift (c *ℤ pow2 k) s
unfolding ts_residual
by_difference c s k (pos zero) h e =
    sym (*ℤ_comm c (pos 1) ∙ one-*ℤ c) ∙ sym (round_shift-left c 0 s h) ∙ ap (λ (i : ℕ). round_shift (c *ℤ pow2 i) s) (omega (arith, ap pos_part e, parts_add (pos zero) (pos k)))
by_difference c s k (pos (suc d)) h e =
    sym (round_shift_right c (suc d) k (omega arith)) ∙ ap (λ (i : ℕ). round_shift (c *ℤ pow2 k) i) (omega (arith, ap pos_part e, parts_add (pos (suc d)) (pos k)))
by_difference c s k (negsuc d) h e =
    sym (round_shift-left c (suc d) s h) ∙ ap (λ (i : ℕ). round_shift (c *ℤ pow2 i) s) (omega (arith, ap pos_part e, ap neg_part e, parts_add (negsuc d) (pos k)))

-- bd_shift + B + L is R + ts_shift
shifts : (b l : ℕ) (x : Bool) → 8 ≤ b → b ≤ 16 → clause_bd_shift b x + (b + l) ≡ transform_range b x + clause_ts_shift b x l
unfolding clause_bd_shift clause_ts_shift transform_range
shifts b l true h g = omega arith
shifts b l false h g = omega arith

some_shift : (b : ℕ) (x : Bool) → b ≤ 16 → 1 ≤ clause_bd_shift b x
unfolding clause_bd_shift
some_shift b x h = omega arith

pub skip_is_the_clauses : SkipIsTheClauses
unfolding ts_shift clause_residual
skip_is_the_clauses n b x c size least most =
    let l : ℕ = log2_size n in
    by_difference c (clause_bd_shift b x) (clause_ts_shift b x l) (pos (transform_range b x) -ℤ pos (b + l)) (some_shift b x most)
    (parts_ext (pos (clause_bd_shift b x)) (pos (transform_range b x) -ℤ pos (b + l) +ℤ pos (clause_ts_shift b x l))
    (omega (
      arith,
      shifts b l x least most,
      parts_add (pos (transform_range b x) -ℤ pos (b + l)) (pos (clause_ts_shift b x l)),
      parts_add (pos (transform_range b x)) (neg_ℤ (pos (b + l))),
      parts_neg (pos (b + l)),
    )))
