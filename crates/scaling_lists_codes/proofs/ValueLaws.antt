-- Signed numbers by the halves of their codes, and their ranges.
--   signed_odd, signed_even     se(v) of an odd and of an even number
--   outside_odd, outside_even   the range of one
--   added_odd, added_even       a sum with one
--   even_inside                 an even number whose code is not outside
--   outside_wider               what lies in a range lies in a wider one
use mathlib.Core.Path.{◌≡◌, refl, sym, ap, ◌∙◌}
use mathlib.Core.Bool.{false}
use Prim.Native.Nat.{ℕ, zero, suc, ◌+◌, ◌-◌, ◌/◌, ◌%◌, ◌≤◌}
use native.Mathlib.Omega.{arith}
use borrow.Author.Tests.{ltb-false, le-ltb, eq-eqb, ne_eqb}
use lib.Dec.{ltb}
use lib.IntN.{ℤ, pos, negsuc, neg_ℤ}
use Rattle.bits.specs.ExpGolomb.{signed_number}
use Rattle.scaling_lists_codes.specs.Syntax.{outside_of, added}

pub signed_odd : (k : ℕ) → k % 2 ≡ 1 → signed_number k ≡ pos (k / 2 + 1)
unfolding signed_number
signed_odd k e = rw (eq-eqb (k % 2) 1 e) (ap pos (omega arith))

pub signed_even : (k : ℕ) → (k % 2 ≡ 1 → ⊥) → signed_number k ≡ neg_ℤ (pos (k / 2))
unfolding signed_number
signed_even k e = rw (ne_eqb (k % 2) 1 e)

outside_neg : (low high m : ℕ) → outside_of low high (neg_ℤ (pos m)) ≡ ltb low m
unfolding outside_of
outside_neg low high zero = le-ltb high 0 (omega arith) ∙ sym (le-ltb low 0 (omega arith))
outside_neg low high (suc m) = refl

added_neg : (n m : ℕ) → added n (neg_ℤ (pos m)) ≡ n - m
unfolding added
added_neg n zero = omega arith
added_neg n (suc m) = refl

module _ (k : ℕ) where
  pub outside_odd : (low high : ℕ) → k % 2 ≡ 1 → outside_of low high (signed_number k) ≡ ltb high (k / 2 + 1)
  unfolding outside_of
  outside_odd low high e = ap (outside_of low high) (signed_odd k e)

  pub outside_even : (low high : ℕ) → (k % 2 ≡ 1 → ⊥) → outside_of low high (signed_number k) ≡ ltb low (k / 2)
  outside_even low high e = ap (outside_of low high) (signed_even k e) ∙ outside_neg low high (k / 2)

  pub added_odd : (n : ℕ) → k % 2 ≡ 1 → added n (signed_number k) ≡ n + (k / 2 + 1)
  unfolding added
  added_odd n e = ap (added n) (signed_odd k e)

  pub added_even : (n : ℕ) → (k % 2 ≡ 1 → ⊥) → added n (signed_number k) ≡ n - k / 2
  added_even n e = ap (added n) (signed_even k e) ∙ added_neg n (k / 2)

  pub even_inside : (low high : ℕ) → (k % 2 ≡ 1 → ⊥) → outside_of low high (signed_number k) ≡ false → k / 2 ≤ low
  even_inside low high e h = ltb-false low (k / 2) (sym (outside_even low high e) ∙ h)

pub outside_wider : (z : ℤ) (a b low high : ℕ) → a ≤ low → b ≤ high → outside_of a b z ≡ false → outside_of low high z ≡ false
unfolding outside_of
outside_wider (pos n) a b low high l h e = le-ltb high n (omega (arith, ltb-false b n e))
outside_wider (negsuc n) a b low high l h e = le-ltb low (suc n) (omega (arith, ltb-false a (suc n) e))

-- what is in the range and added to a base stays below its end
pub added_bound : (z : ℤ) (n low high : ℕ) → outside_of low high z ≡ false → added n z ≤ n + high
unfolding outside_of added
added_bound (pos d) n low high e = omega (arith, ltb-false high d e)
added_bound (negsuc d) n low high e = omega arith
