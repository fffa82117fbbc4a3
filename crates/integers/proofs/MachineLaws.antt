-- What the borrow checker leaves of signed code: round trips `to_z w (of_z w z)`, tests `lt_z x y ≡ b`, shifts, ranges `SFits w z`.
--   round_trip, -ok, -widen         what the machine reads back is the number, where it fits
--   lt_z_round_trip                  a test of what the machine reads back is a test of the numbers
--   lt_z_true, lt_z_false, lt_z_of_lt, lt_z_of_le     a test and the order that it decides, both ways
--   eq_bits                         a test of the bits for equality
--   shl_one                         the power of two that a shift of 1 gives
--   abs_parts, abs_neg, abs_add, abs_mul, mag_le  the size of an integer
--   sfits_out, sfits_pos_part, sfits_neg_part, diff_sfits   a range by the parts, both ways
--   sfits_abs, abs_sfits            a range by the size, both ways
--   sfits_shr, sfits_quot, sfits_widen_trip       what stays in range
use mathlib.Core.Path.{◌≡◌, refl, sym, ◌∙◌, ap, subst}
use mathlib.Core.Bool.{Bool, true, false, not}
use Prim.Native.Nat.{ℕ, suc, ◌+◌, ◌*◌, ◌/◌, ◌%◌, ◌^◌, ◌<◌, ◌≤◌}
use native.Mathlib.Nat.{mod-eq_of_lt, one-mul, lt_of_le_of_lt, div-le_self}
use native.Mathlib.Omega.{arith}
use lib.Dec.{T, leb}
use lib.Pow.{pow-lt}
use lib.IntN.{ℤ, pos, negsuc, ◌+ℤ◌, ◌*ℤ◌, neg_ℤ, nat_abs}
use lib.Signed.{mag, quot_z, lt_z, shr_z, ◌≤ℤ◌, ◌<ℤ◌, lt_z_yes, lt_z_no, mag_shr, clash_ℤ}
use mir.Syntax.{Width}
use mir.Val.{SFits, to_z, of_z, bits, hbits}
use mir.ValLaws.{pow-bits}
use mir.Facts.{to_z-of_z, to_z_pos, sfits_widen}
use Rattle.integers.proofs.LinearLaws.{pos_part, neg_part, parts_add_le, parts_neg, parts_mul, diff, parts_diff}

-- ---- the size
pub abs_parts : (z : ℤ) → nat_abs z ≡ pos_part z + neg_part z
abs_parts (pos n) = omega arith
abs_parts (negsuc n) = omega arith

pub abs_neg : (x : ℤ) → nat_abs (neg_ℤ x) ≡ nat_abs x
abs_neg x = omega (arith, abs_parts x, abs_parts (neg_ℤ x), parts_neg x)

pub abs_add : (x y : ℤ) → nat_abs (x +ℤ y) ≤ nat_abs x + nat_abs y
abs_add x y = omega (arith, abs_parts x, abs_parts y, abs_parts (x +ℤ y), parts_add_le x y)

pub abs_mul : (x y : ℤ) → nat_abs (x *ℤ y) ≡ nat_abs x * nat_abs y
abs_mul x y = rw (abs_parts (x *ℤ y), abs_parts x, abs_parts y) (omega (arith, parts_mul x y))

pub mag_le : (z : ℤ) → mag z ≤ nat_abs z
mag_le (pos n) = omega arith
mag_le (negsuc n) = omega arith

-- ---- ranges
pub sfits_out : {w : Width} {z : ℤ} → pos_part z < 2 ^ hbits w → neg_part z ≤ 2 ^ hbits w → SFits w z
sfits_out {z = pos n} h k = record { sfits = h }
sfits_out {z = negsuc n} h k = record { sfits = k }

pub sfits_pos_part : {w : Width} {z : ℤ} → SFits w z → pos_part z < 2 ^ hbits w
sfits_pos_part {z = pos n} f = f.sfits
sfits_pos_part {z = negsuc n} f = omega (arith, f.sfits)

pub sfits_neg_part : {w : Width} {z : ℤ} → SFits w z → neg_part z ≤ 2 ^ hbits w
sfits_neg_part {z = pos n} f = omega arith
sfits_neg_part {z = negsuc n} f = f.sfits

pub diff_sfits : (w : Width) (p n : ℕ) → (p < n + 2 ^ hbits w) × (n ≤ p + 2 ^ hbits w) → SFits w (diff p n)
diff_sfits w p n h = by_sign (diff p n) (parts_diff p n)
  where
    by_sign : (z : ℤ) → pos_part z + n ≡ p + neg_part z → SFits w z
    by_sign (pos a) e = record { sfits = omega arith }
    by_sign (negsuc a) e = record { sfits = omega arith }

pub sfits_abs : {w : Width} {z : ℤ} → nat_abs z < 2 ^ hbits w → SFits w z
sfits_abs {z = z} h = record { sfits = lt_of_le_of_lt (mag_le z) h }

pub abs_sfits : {w : Width} {z : ℤ} → SFits w z → nat_abs z ≤ 2 ^ hbits w
abs_sfits {z = pos n} f = omega (arith, f.sfits)
abs_sfits {z = negsuc n} f = f.sfits

pub sfits_shr : {w : Width} {z : ℤ} (m : ℕ) → SFits w z → SFits w (shr_z z m)
sfits_shr {z = z} m f = record { sfits = lt_of_le_of_lt (mag_shr z m) f.sfits }

pub sfits_quot : {w : Width} {z : ℤ} (k : ℕ) → SFits w z → SFits w (quot_z z (pos k))
sfits_quot {z = pos a} k f = record { sfits = lt_of_le_of_lt (div-le_self a k) f.sfits }
sfits_quot {z = negsuc a} k f =
    sfits_out (omega (arith, f.sfits, parts_neg (pos (suc a / k))))
    (omega (arith, f.sfits, parts_neg (pos (suc a / k)), div-le_self (suc a) k))

-- ---- round trips
-- the library's `to_z-of_z`, named here so that a proof finds all round trips in one module
pub round_trip : {w : Width} {z : ℤ} → SFits w z → to_z w (of_z w z) ≡ z
round_trip = to_z-of_z

-- of a call's result, whose range is in hand bare: `round_trip_ok w64 c.f.result c.f.ok`
pub round_trip_ok : (w : Width) (z : ℤ) → mag z < 2 ^ hbits w → to_z w (of_z w z) ≡ z
round_trip_ok w z h = round_trip (record { sfits = h })

pub sfits_widen_trip : {w w' : Width} {z : ℤ} → SFits w z → T (leb (hbits w) (hbits w')) → SFits w' (to_z w (of_z w z))
sfits_widen_trip {w' = w'} f t = subst (λ (y : ℤ). SFits w' y) (sym (round_trip f)) (sfits_widen t f)

-- of a value that is cast to a wider type; at two widths that are known, the last argument is `tt`
pub round_trip_widen : (w' : Width) {w : Width} {z : ℤ}
    → SFits w z → T (leb (hbits w) (hbits w')) → to_z w' (of_z w' (to_z w (of_z w z))) ≡ z
round_trip_widen w' f t = round_trip (sfits_widen_trip f t) ∙ round_trip f

-- ---- tests
pub lt_z_round_trip : {w : Width} {x y : ℤ} {b : Bool}
    → SFits w x → SFits w y → lt_z (to_z w (of_z w x)) (to_z w (of_z w y)) ≡ b → lt_z x y ≡ b
lt_z_round_trip f g h = rw (round_trip f, round_trip g) at h

pub lt_z_true : {x y : ℤ} → lt_z x y ≡ true → x <ℤ y
lt_z_true e = lt_z_yes (subst T (sym e) tt)

pub lt_z_false : {x y : ℤ} → lt_z x y ≡ false → y ≤ℤ x
lt_z_false e = lt_z_no (subst (λ (v : Bool). T (not v)) (sym e) tt)

pub lt_z_of_lt : {x y : ℤ} → x <ℤ y → lt_z x y ≡ true
lt_z_of_lt {x} {y} h = by_test (lt_z x y) refl
  where
    by_test : (b : Bool) → lt_z x y ≡ b → b ≡ true
    by_test true e = refl
    by_test false e = clash_ℤ h (lt_z_false e)

pub lt_z_of_le : {x y : ℤ} → y ≤ℤ x → lt_z x y ≡ false
lt_z_of_le {x} {y} h = by_test (lt_z x y) refl
  where
    by_test : (b : Bool) → lt_z x y ≡ b → b ≡ false
    by_test true e = clash_ℤ (lt_z_true e) h
    by_test false e = refl

-- a test `x == k` compares bits; at a literal k, `to_z w k` computes to its number
pub eq_bits : {w : Width} {x : ℤ} {k : ℕ} → SFits w x → of_z w x ≡ k → x ≡ to_z w k
eq_bits {w} f e = sym (round_trip f) ∙ ap (to_z w) e

-- ---- shifts
-- `1 << n` at a signed width, as the machine leaves it
pub shl_one : (w : Width) (n : ℕ) → n < hbits w → to_z w ((1 * 2 ^ n) % 2 ^ bits w) ≡ pos (2 ^ n)
shl_one w n h = ap (to_z w) (mod-eq_of_lt below ∙ one-mul (2 ^ n)) ∙ to_z_pos w (pow-lt h)
  where
    below : 1 * 2 ^ n < 2 ^ bits w
    below = omega (arith, pow-lt h, pow-bits w)
