-- Laws of the limit to a range.
--   clip3_low, clip3_high, clip3_id   the three cases
--   clip3_between                     the result lies in the range
--   clip3_idem, clip3_mono            a second limit changes nothing; the limit keeps the order
--   clip3_within                      the result is no larger in size than the range's ends
--   clamp_clips                       std's `clamp` is the limit
use mathlib.Core.Path.{◌≡◌, refl, sym}
use mathlib.Core.Bool.{Bool, true, false, cond}
use Prim.Native.Nat.{ℕ}
use native.Mathlib.Omega.{arith}
use lib.IntN.{ℤ}
use lib.Signed.{lt_z, ◌≤ℤ◌, ◌<ℤ◌, ≤ℤ_refl}
use Rattle.std.specs.Int.{int_min, int_max}
use Rattle.integers.specs.Clip.{clip3}
use Rattle.integers.specs.Within.{Within}
use Rattle.integers.proofs.LinearLaws.{le_in}
use Rattle.integers.proofs.OrderLaws.{≤ℤ_trans, <ℤ-≤ℤ}
use Rattle.integers.proofs.MachineLaws.{lt_z_true, lt_z_false, lt_z_of_lt, lt_z_of_le}
use Rattle.integers.proofs.BoundLaws.{within_out, within_in}

pub clip3_low : (lo hi x : ℤ) → x <ℤ lo → clip3 lo hi x ≡ lo
unfolding clip3
clip3_low lo hi x h = rw (lt_z_of_lt h)

pub clip3_high : (lo hi x : ℤ) → lo ≤ℤ x → hi <ℤ x → clip3 lo hi x ≡ hi
unfolding clip3
clip3_high lo hi x h k = rw (lt_z_of_le h, lt_z_of_lt k)

pub clip3_id : (lo hi x : ℤ) → lo ≤ℤ x → x ≤ℤ hi → clip3 lo hi x ≡ x
unfolding clip3
clip3_id lo hi x h k = rw (lt_z_of_le h, lt_z_of_le k)

-- a fact of each case is a fact of the result
pub clip3_cases : (Q : ℤ → Type 0) (lo hi x : ℤ)
    → (x <ℤ lo → Q lo) → (lo ≤ℤ x → hi <ℤ x → Q hi) → (lo ≤ℤ x → x ≤ℤ hi → Q x) → Q (clip3 lo hi x)
unfolding clip3
clip3_cases Q lo hi x f g h = by_tests (lt_z x lo) (lt_z hi x) refl refl
  where
    by_tests : (a b : Bool) → lt_z x lo ≡ a → lt_z hi x ≡ b → Q (cond a lo (cond b hi x))
    by_tests true b e k = f (lt_z_true e)
    by_tests false true e k = g (lt_z_false e) (lt_z_true k)
    by_tests false false e k = h (lt_z_false e) (lt_z_false k)

pub clip3_between : (lo hi x : ℤ) → lo ≤ℤ hi → (lo ≤ℤ clip3 lo hi x) × (clip3 lo hi x ≤ℤ hi)
clip3_between lo hi x h =
    clip3_cases (λ z. (lo ≤ℤ z) × (z ≤ℤ hi)) lo hi x (λ a. (≤ℤ_refl lo, h)) (λ a b. (h, ≤ℤ_refl hi)) (λ a b. (a, b))

pub clip3_idem : (lo hi x : ℤ) → lo ≤ℤ hi → clip3 lo hi (clip3 lo hi x) ≡ clip3 lo hi x
clip3_idem lo hi x h = let b = clip3_between lo hi x h in clip3_id lo hi (clip3 lo hi x) b.0 b.1

pub clip3_mono : (lo hi : ℤ) {x y : ℤ} → lo ≤ℤ hi → x ≤ℤ y → clip3 lo hi x ≤ℤ clip3 lo hi y
clip3_mono lo hi {x} {y} h k =
    clip3_cases (λ z. z ≤ℤ clip3 lo hi y) lo hi x
    (λ a. (clip3_between lo hi y h).0)
    (λ a b. clip3_cases (λ z. hi ≤ℤ z) lo hi y (λ d. ≤ℤ_trans (<ℤ-≤ℤ b) (≤ℤ_trans k (<ℤ-≤ℤ d))) (λ d e. ≤ℤ_refl hi) (λ d e. ≤ℤ_trans (<ℤ-≤ℤ b) k))
    (λ a b. clip3_cases (λ z. x ≤ℤ z) lo hi y (λ d. ≤ℤ_trans k (<ℤ-≤ℤ d)) (λ d e. b) (λ d e. k))

pub clip3_within : {b : ℕ} (lo hi x : ℤ) → lo ≤ℤ hi → Within b lo → Within b hi → Within b (clip3 lo hi x)
clip3_within {b} lo hi x h f g =
    let e = clip3_between lo hi x h in
    within_out (clip3 lo hi x) (omega (arith, le_in e.0, le_in e.1, within_in f, within_in g))

pub clamp_clips : (lo hi x : ℤ) → lo ≤ℤ hi → int_max lo (int_min x hi) ≡ clip3 lo hi x
clamp_clips lo hi x h = by_tests (lt_z hi x) (lt_z x lo) refl refl
  where
    by_tests : (a b : Bool) → lt_z hi x ≡ a → lt_z x lo ≡ b → int_max lo (int_min x hi) ≡ clip3 lo hi x
    by_tests true b e k = rw (e, lt_z_of_le h) (sym (clip3_high lo hi x (≤ℤ_trans h (<ℤ-≤ℤ (lt_z_true e))) (lt_z_true e)))
    by_tests false true e k = rw (e, k) (sym (clip3_low lo hi x (lt_z_true k)))
    by_tests false false e k = rw (e, k) (sym (clip3_id lo hi x (lt_z_false k) (lt_z_false e)))
