-- Laws of the text of a number.
--   unsigned_small, unsigned_more   one digit; the digits before the last, and the last
--   unsigned_length                 a number below 10^(k+1) has at most k + 1 digits
--   unsigned_shorter                one digit less without the last
--   signed_negative, signed_other   the text of an integer by its sign, from what the machine has of it
--   magnitude_length                the size of a 32-bit number has at most 10 digits
use mathlib.Core.Path.{◌≡◌, refl, ap, ◌∙◌, subst}
use mathlib.Core.Bool.{Bool, true, false, cond}
use mathlib.Core.List.{List, [], ◌∷◌, ◌++◌}
use Prim.Native.Nat.{ℕ, zero, suc, ◌+◌, ◌/◌, ◌%◌, ◌^◌, ◌≤◌, ◌<◌}
use native.Mathlib.Nat.{pow-suc}
use native.Mathlib.Omega.{arith}
use borrow.Author.Tests.{lt-ltb, le-ltb, ltb-false, ltb-true}
use lib.Dec.{T, ltb}
use lib.IntN.{ℤ, pos, negsuc, nat_abs}
use lib.ListN.{length, set, length-append}
use lib.Signed.{lt_z}
use mir.Syntax.{w32}
use mir.Val.{SFits, to_z, of_z}
use Rattle.integers.proofs.MachineLaws.{round_trip, abs_sfits}
use Rattle.text.specs.Text.{digit, minus, digits, unsigned_text, signed_text, Wrote}
use Rattle.text.proofs.WroteLaws.{wrote_one, wrote_more}

-- ---- the digits: a test that fails leaves the second branch
cond_cong : {A : Type 0} (b : Bool) (x y z : A) → (b ≡ false → y ≡ z) → cond b x y ≡ cond b x z
cond_cong true x y z f = refl
cond_cong false x y z f = f refl

cond-length : (b : Bool) (x y : List ℕ) (k : ℕ) → length x ≤ k → (b ≡ false → length y ≤ k) → length (cond b x y) ≤ k
cond-length true x y k h f = h
cond-length false x y k h f = f refl

-- more digits than a number has are its digits
digits_enough : (j k n : ℕ) → n < 10 ^ suc j → n < 10 ^ suc k → digits (suc j) n ≡ digits (suc k) n
unfolding digits
digits_enough zero k n h g = cond_cong (ltb n 10) _ _ _ (λ e. absurd (omega (arith, ltb-false n 10 e)))
digits_enough (suc j) zero n h g = cond_cong (ltb n 10) _ _ _ (λ e. absurd (omega (arith, ltb-false n 10 e)))
digits_enough (suc j) (suc k) n h g =
    cond_cong (ltb n 10) _ _ _
    (λ e. ap (λ (l : List ℕ). l ++ (digit (n % 10) ∷ [])) (digits_enough j k (n / 10) (omega (arith, pow-suc 10 (suc j))) (omega (arith, pow-suc 10 (suc k)))))

digits-length : (j k n : ℕ) → n < 10 ^ suc k → length (digits j n) ≤ suc k
unfolding digits
digits-length zero k n h = omega arith
digits-length (suc j) zero n h = cond-length (ltb n 10) _ _ 1 (omega arith) (λ e. absurd (omega (arith, ltb-false n 10 e)))
digits-length (suc j) (suc k) n h =
    cond-length (ltb n 10) _ _ (suc (suc k)) (omega arith)
    (λ e. rw length-append (omega (arith, digits-length j k (n / 10) (omega (arith, pow-suc 10 (suc k))))))

-- ---- a number without a sign
pub unsigned_small : (n : ℕ) → n < 10 → unsigned_text n ≡ digit n ∷ []
unfolding digits unsigned_text
unsigned_small n h = simp (lt-ltb n 10 h)

pub unsigned_more : (n : ℕ) → 10 ≤ n → n < 2 ^ 64 → unsigned_text n ≡ unsigned_text (n / 10) ++ (digit (n % 10) ∷ [])
unfolding digits unsigned_text
unsigned_more n h k = one_step ∙ ap (λ (l : List ℕ). l ++ (digit (n % 10) ∷ [])) (digits_enough 18 19 (n / 10) (omega arith) (omega arith))
  where
    one_step : digits 20 n ≡ digits 19 (n / 10) ++ (digit (n % 10) ∷ [])
    one_step = simp (le-ltb n 10 h)

pub unsigned_length : (k n : ℕ) → n < 10 ^ suc k → length (unsigned_text n) ≤ suc k
unfolding unsigned_text
unsigned_length k n h = digits-length 20 k n h

pub unsigned_shorter : (n : ℕ) → 10 ≤ n → n < 2 ^ 64 → length (unsigned_text n) ≡ length (unsigned_text (n / 10)) + 1
unsigned_shorter n h k = rw (unsigned_more n h k, length-append) refl

-- ---- the sign
pub signed_negative : {n i j : ℕ} {l m : List ℕ} (z : ℤ)
    → SFits w32 z → lt_z (to_z w32 (of_z w32 z)) (pos 0) ≡ true → n ≡ nat_abs (to_z w32 (of_z w32 z))
    → Wrote (set l i minus) (i + 1) (unsigned_text n) m j → Wrote l i (signed_text z) m j
unfolding signed_text
signed_negative {i = i} {l = l} z f e s w =
    rw (by_sign z (rw (round_trip f) at e)) (rw (s, round_trip f) at (wrote_more (wrote_one l i minus) w))
  where
    by_sign : (y : ℤ) → lt_z y (pos 0) ≡ true → signed_text y ≡ minus ∷ unsigned_text (nat_abs y)
    by_sign (pos n) e = absurd (let f : ⊥ = omega (arith, ltb-true n 0 e) in f)
    by_sign (negsuc n) e = refl

pub signed_other : {n i j : ℕ} {l m : List ℕ} (z : ℤ)
    → SFits w32 z → lt_z (to_z w32 (of_z w32 z)) (pos 0) ≡ false → n ≡ nat_abs (to_z w32 (of_z w32 z))
    → Wrote l i (unsigned_text n) m j → Wrote l i (signed_text z) m j
unfolding signed_text
signed_other z f e s w = rw (by_sign z (rw (round_trip f) at e)) (rw (s, round_trip f) at w)
  where
    by_sign : (y : ℤ) → lt_z y (pos 0) ≡ false → signed_text y ≡ unsigned_text (nat_abs y)
    by_sign (pos n) e = refl
    by_sign (negsuc n) e = absurd (subst T e tt)

pub magnitude_length : {n : ℕ} (z : ℤ) → SFits w32 z → n ≡ nat_abs (to_z w32 (of_z w32 z)) → length (unsigned_text n) ≤ 10
magnitude_length z f e = unsigned_length 9 _ (rw (e, round_trip f) (omega (arith, abs_sfits f)))
