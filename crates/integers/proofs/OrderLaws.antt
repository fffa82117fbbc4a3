-- ℤ as a commutative ring and an order, and the shift that rounds down.
--   *ℤ_assoc, *ℤ-+ℤ, +ℤ-*ℤ, one-*ℤ    the ring, beside the laws of lib.IntN
--   ≤ℤ_trans, ≤ℤ_antisym, <ℤ-≤ℤ       the order, beside the laws of lib.Signed
--   +ℤ_mono, *ℤ_mono, negℤ_anti       what sums, multiples and negation do to the order
--   le_shr_z                           what `shr_z x m` is: the greatest a with m·a ≤ x
--   Floor, shr_floor, shr_unique      the same as an interval: m·q ≤ x < m·q + m
--   shr_shift, shr_z_mono              multiples of m leave the shift; the shift keeps the order
use mathlib.Core.Path.{◌≡◌, ap}
use mathlib.Core.Logic.{◌↔◌}
use Prim.Native.Nat.{ℕ, suc, ◌+◌, ◌*◌, ◌<◌, ◌≤◌}
use native.Mathlib.Nat.{mul-le-mul_left, lt_of_mul-lt-mul_left, div-add-mod, mod-lt}
use native.Mathlib.Omega.{arith}
use lib.IntN.{ℤ, pos, negsuc, ◌+ℤ◌, ◌*ℤ◌, neg_ℤ}
use lib.Signed.{shr_z, ◌≤ℤ◌, ◌<ℤ◌, ≤ℤ_refl}
use Rattle.integers.proofs.LinearLaws.{pos_part, neg_part, parts_ext, parts_add, parts_mul, parts_neg}
use Rattle.integers.proofs.LinearLaws.{le_in, le_out, lt_in, split, diff_ext, ring}

-- ---- the ring
pub *ℤ_assoc : (x y z : ℤ) → (x *ℤ y) *ℤ z ≡ x *ℤ (y *ℤ z)
*ℤ_assoc x y z = rw (← split x, ← split y, ← split z) (simp ring (diff_ext _ _ _ _ (omega arith)))

pub *ℤ-+ℤ : (x y z : ℤ) → x *ℤ (y +ℤ z) ≡ x *ℤ y +ℤ x *ℤ z
*ℤ-+ℤ x y z = rw (← split x, ← split y, ← split z) (simp ring (diff_ext _ _ _ _ (omega arith)))

pub +ℤ-*ℤ : (x y z : ℤ) → (x +ℤ y) *ℤ z ≡ x *ℤ z +ℤ y *ℤ z
+ℤ-*ℤ x y z = rw (← split x, ← split y, ← split z) (simp ring (diff_ext _ _ _ _ (omega arith)))

pub one-*ℤ : (x : ℤ) → pos 1 *ℤ x ≡ x
one-*ℤ x = rw (← split x) (simp ring (diff_ext _ _ _ _ (omega arith)))

-- ---- the order
pub ≤ℤ_trans : {x y z : ℤ} → x ≤ℤ y → y ≤ℤ z → x ≤ℤ z
≤ℤ_trans {x} {y} {z} h k = le_out x z (omega (arith, le_in))

pub ≤ℤ_antisym : {x y : ℤ} → x ≤ℤ y → y ≤ℤ x → x ≡ y
≤ℤ_antisym {x} {y} h k = parts_ext x y (omega (arith, le_in))

pub <ℤ-≤ℤ : {x y : ℤ} → x <ℤ y → x ≤ℤ y
<ℤ-≤ℤ {x} {y} h = le_out x y (omega (arith, lt_in))

pub +ℤ_mono : {a b x y : ℤ} → a ≤ℤ b → x ≤ℤ y → (a +ℤ x) ≤ℤ (b +ℤ y)
+ℤ_mono {a} {b} {x} {y} h k = le_out (a +ℤ x) (b +ℤ y) (omega (arith, le_in, parts_add a x, parts_add b y))

pub *ℤ_mono : {x y : ℤ} (n : ℕ) → x ≤ℤ y → (pos n *ℤ x) ≤ℤ (pos n *ℤ y)
*ℤ_mono {x} {y} n h =
    le_out (pos n *ℤ x) (pos n *ℤ y) (omega (arith, mul-le-mul_left n (le_in h), parts_mul (pos n) x, parts_mul (pos n) y))

pub negℤ_anti : {x y : ℤ} → x ≤ℤ y → neg_ℤ y ≤ℤ neg_ℤ x
negℤ_anti {x} {y} h = le_out (neg_ℤ y) (neg_ℤ x) (omega (arith, le_in, parts_neg x, parts_neg y))

-- ---- the shift that rounds down
-- m·q ≤ x < m·q + m; by the parts, so that omega reads it as it stands
abbrev pub Floor : ℤ → ℕ → ℤ → Type 0
Floor x m q =
    (m * pos_part q + neg_part x ≤ pos_part x + m * neg_part q) × (pos_part x + m * neg_part q < m * pos_part q + neg_part x + m)

pub shr_floor : (x : ℤ) (m : ℕ) → 0 < m → Floor x m (shr_z x m)
shr_floor (pos a) m h = omega (arith, div-add-mod a m, mod-lt a h)
shr_floor (negsuc a) m h = omega (arith, div-add-mod a m, mod-lt a h)

pub le_shr_z : (a x : ℤ) (m : ℕ) → 0 < m → ((pos m *ℤ a) ≤ℤ x) ↔ (a ≤ℤ shr_z x m)
le_shr_z a x m h = (to, from)
  where
    to : (pos m *ℤ a) ≤ℤ x → a ≤ℤ shr_z x m
    to k =
        le_out a (shr_z x m)
        (omega (
          arith,
          lt_of_mul-lt-mul_left m {m = pos_part a + neg_part (shr_z x m)} {n = suc (pos_part (shr_z x m) + neg_part a)}
              (omega (arith, le_in k, parts_mul (pos m) a, shr_floor x m h)),
        ))

    from : a ≤ℤ shr_z x m → (pos m *ℤ a) ≤ℤ x
    from k = ≤ℤ_trans (*ℤ_mono m k) (le_out (pos m *ℤ shr_z x m) x (omega (arith, parts_mul (pos m) (shr_z x m), shr_floor x m h)))

pub shr_z_mono : {x y : ℤ} (m : ℕ) → 0 < m → x ≤ℤ y → shr_z x m ≤ℤ shr_z y m
shr_z_mono {x} {y} m h k = (le_shr_z (shr_z x m) y m h).0 (≤ℤ_trans ((le_shr_z (shr_z x m) x m h).1 (≤ℤ_refl (shr_z x m))) k)

-- two integers with one multiple's interval are one
squeeze : (x q s : ℤ) (m : ℕ) → Floor x m q → Floor x m s → q ≡ s
squeeze x q s m f g =
    parts_ext q s
    (omega (
      arith,
      lt_of_mul-lt-mul_left m {m = pos_part q + neg_part s} {n = suc (pos_part s + neg_part q)} (omega arith),
      lt_of_mul-lt-mul_left m {m = pos_part s + neg_part q} {n = suc (pos_part q + neg_part s)} (omega arith),
    ))

pub shr_unique : (x q : ℤ) (m : ℕ) → 0 < m → (pos m *ℤ q) ≤ℤ x → x <ℤ (pos m *ℤ q +ℤ pos m) → q ≡ shr_z x m
shr_unique x q m h l u =
    squeeze x q (shr_z x m) m (omega (arith, le_in, lt_in, parts_mul (pos m) q, parts_add (pos m *ℤ q) (pos m))) (shr_floor x m h)

pub shr_shift : (x y : ℤ) (m : ℕ) → 0 < m → shr_z (x +ℤ pos m *ℤ y) m ≡ shr_z x m +ℤ y
shr_shift x y m h =
    squeeze (x +ℤ pos m *ℤ y) (shr_z (x +ℤ pos m *ℤ y) m) (shr_z x m +ℤ y) m (shr_floor (x +ℤ pos m *ℤ y) m h)
    (omega (arith, shr_floor x m h, parts_add x (pos m *ℤ y), parts_mul (pos m) y, ap (λ (z : ℕ). m * z) (parts_add (shr_z x m) y)))
