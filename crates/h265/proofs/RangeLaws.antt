-- Laws of sizes, depths and the range.
--   size_cases                            a fact of the four sizes is a fact of every size
--   size_bound, size_square               n is 4 .. 32, and n² at most 1024
--   log2_size_bound                        L is 2 .. 5
--   transform_range_least, -most, -depth   R is 15 .. 22, and at most B + 7
--   coeff_min-≤-coeff_max, coeff_min_within, coeff_max_within   the ends of the range
--   coeff_min_eq, coeff_max_eq              the ends as code works them out, from 2^R
--   clip_coeff_between, clip_coeff_within, clip_coeff_id       a number limited to the range
--   outside_range_false                    what the test says of a number in the range
use mathlib.Core.Path.{◌≡◌, refl, sym, ap, ◌∙◌, subst}
use mathlib.Core.Bool.{Bool, true, false, cond, ◌||◌}
use Prim.Native.Nat.{ℕ, ◌+◌, ◌*◌, ◌^◌, ◌≤◌}
use native.Mathlib.Nat.{le_refl, mul-le-mul}
use native.Mathlib.Omega.{arith}
use lib.Dec.{T, eqb, eqb→eq}
use lib.Pow.{pow_pos}
use lib.IntN.{ℤ, pos, neg_ℤ, ◌-ℤ◌, +ℤ_idl}
use lib.Signed.{lt_z, ◌≤ℤ◌}
use Rattle.integers.specs.Shift.{pow2}
use Rattle.integers.specs.Within.{Within}
use Rattle.integers.proofs.LinearLaws.{parts_add, parts_neg, le_out}
use Rattle.integers.proofs.MachineLaws.{lt_z_false}
use Rattle.integers.proofs.BoundLaws.{within_neg, within_pos, within_out}
use Rattle.integers.proofs.ClipLaws.{clip3_between, clip3_id, clip3_within}
use Rattle.integers.proofs.TestLaws.{neither}
use Rattle.h265.specs.Range.{is_size, log2_size, transform_range, coeff_min, coeff_max, clip_coeff, outside_range}

either : (a b : Bool) (Q : Type 0) → (T a → Q) → (T b → Q) → T (a || b) → Q
either true b Q f g t = f tt
either false b Q f g t = g t

pub size_cases : (Q : ℕ → Type 0) → Q 4 → Q 8 → Q 16 → Q 32 → (n : ℕ) → T (is_size n) → Q n
size_cases Q a b c d n t =
    either (eqb n 4) (eqb n 8 || (eqb n 16 || eqb n 32)) (Q n) (at 4 a)
    (either (eqb n 8) (eqb n 16 || eqb n 32) (Q n) (at 8 b) (either (eqb n 16) (eqb n 32) (Q n) (at 16 c) (at 32 d))) t
  where
    at : (k : ℕ) → Q k → T (eqb n k) → Q n
    at k q e = subst Q (sym (eqb→eq n k e)) q

pub size_bound : (n : ℕ) → T (is_size n) → (4 ≤ n) × (n ≤ 32)
size_bound n t = size_cases (λ m. (4 ≤ m) × (m ≤ 32)) (omega arith) (omega arith) (omega arith) (omega arith) n t

pub size_square : (n : ℕ) → T (is_size n) → n * n ≤ 1024
size_square n t = mul-le-mul (size_bound n t).1 (size_bound n t).1

-- what is neither 4, 8 nor 16
pub size_else : (n : ℕ) → T (is_size n) → (n ≡ 4 → ⊥) → (n ≡ 8 → ⊥) → (n ≡ 16 → ⊥) → n ≡ 32
size_else n t =
    size_cases (λ m. (m ≡ 4 → ⊥) → (m ≡ 8 → ⊥) → (m ≡ 16 → ⊥) → m ≡ 32)
    (λ a b d. absurd (a refl)) (λ a b d. absurd (b refl)) (λ a b d. absurd (d refl)) (λ a b d. refl) n t

pub log2_size_bound : (n : ℕ) → T (is_size n) → (2 ≤ log2_size n) × (log2_size n ≤ 5)
unfolding log2_size
log2_size_bound n t = size_cases (λ m. (2 ≤ log2_size m) × (log2_size m ≤ 5)) (omega arith) (omega arith) (omega arith) (omega arith) n t

by_flag : (Q : ℕ → Type 0) (x : Bool) {a b : ℕ} → Q a → Q b → Q (cond x a b)
by_flag Q true p q = p
by_flag Q false p q = q

pub transform_range_least : (b : ℕ) (x : Bool) → 15 ≤ transform_range b x
unfolding transform_range
transform_range_least b x = by_flag (λ r. 15 ≤ r) x (omega arith) (omega arith)

pub transform_range_most : (b : ℕ) (x : Bool) → b ≤ 16 → transform_range b x ≤ 22
unfolding transform_range
transform_range_most b x h = by_flag (λ r. r ≤ 22) x (omega arith) (omega arith)

pub transform_range_depth : (b : ℕ) (x : Bool) → 8 ≤ b → transform_range b x ≤ b + 7
unfolding transform_range
transform_range_depth b x h = by_flag (λ r. r ≤ b + 7) x (omega arith) (omega arith)

pub coeff_min_within : (r : ℕ) → Within (2 ^ r) (coeff_min r)
unfolding coeff_min
coeff_min_within r = within_neg (within_pos (le_refl (2 ^ r)))

pub coeff_max_within : (r : ℕ) → Within (2 ^ r) (coeff_max r)
unfolding coeff_max
coeff_max_within r = within_out (pos (2 ^ r) -ℤ pos 1) (omega (arith, parts_add (pos (2 ^ r)) (neg_ℤ (pos 1)), pow_pos r))

pub coeff_min-≤-coeff_max : (r : ℕ) → coeff_min r ≤ℤ coeff_max r
unfolding coeff_min coeff_max
coeff_min-≤-coeff_max r =
    le_out (neg_ℤ (pos (2 ^ r))) (pos (2 ^ r) -ℤ pos 1)
    (omega (arith, parts_neg (pos (2 ^ r)), parts_add (pos (2 ^ r)) (neg_ℤ (pos 1)), pow_pos r))

pub coeff_min_eq : (p : ℤ) (r : ℕ) → p ≡ pow2 r → pos 0 -ℤ p ≡ coeff_min r
unfolding coeff_min
coeff_min_eq p r e = ap (λ (z : ℤ). pos 0 -ℤ z) e ∙ +ℤ_idl (neg_ℤ (pow2 r))

pub coeff_max_eq : (p : ℤ) (r : ℕ) → p ≡ pow2 r → p -ℤ pos 1 ≡ coeff_max r
unfolding coeff_max
coeff_max_eq p r e = ap (λ (z : ℤ). z -ℤ pos 1) e

pub clip_coeff_between : (r : ℕ) (z : ℤ) → (coeff_min r ≤ℤ clip_coeff r z) × (clip_coeff r z ≤ℤ coeff_max r)
unfolding clip_coeff
clip_coeff_between r z = clip3_between (coeff_min r) (coeff_max r) z (coeff_min-≤-coeff_max r)

pub clip_coeff_within : (r : ℕ) (z : ℤ) → Within (2 ^ r) (clip_coeff r z)
unfolding clip_coeff
clip_coeff_within r z = clip3_within (coeff_min r) (coeff_max r) z (coeff_min-≤-coeff_max r) (coeff_min_within r) (coeff_max_within r)

pub clip_coeff_id : (r : ℕ) (z : ℤ) → coeff_min r ≤ℤ z → z ≤ℤ coeff_max r → clip_coeff r z ≡ z
unfolding clip_coeff
clip_coeff_id r z h k = clip3_id (coeff_min r) (coeff_max r) z h k

pub clip_coeff_zero : (r : ℕ) → clip_coeff r (pos 0) ≡ pos 0
unfolding coeff_min coeff_max
clip_coeff_zero r =
    clip_coeff_id r (pos 0) (le_out (neg_ℤ (pos (2 ^ r))) (pos 0) (omega (arith, parts_neg (pos (2 ^ r)))))
    (le_out (pos 0) (pos (2 ^ r) -ℤ pos 1) (omega (arith, parts_add (pos (2 ^ r)) (neg_ℤ (pos 1)), pow_pos r)))

pub outside_range_false : (r : ℕ) (z : ℤ) → outside_range r z ≡ false → (coeff_min r ≤ℤ z) × (z ≤ℤ coeff_max r)
unfolding outside_range
outside_range_false r z e =
    let h = neither (lt_z z (coeff_min r)) (lt_z (coeff_max r) z) e in
    (lt_z_false h.0, lt_z_false h.1)
