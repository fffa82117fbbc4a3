-- Laws of the search for the least number that passes a test.
--   None p k              no number below k passes: the invariant of a loop that searches
--   none_zero, none_suc   before the first, and one more
--   first_where-none       none below a bound that the search has passed
--   first_where_found      the first that passes
--   First, first_where_first   what the result says of the test
--   first_where_cong       a test that agrees below the bound
use mathlib.Core.Path.{◌≡◌, refl, ap}
use mathlib.Core.Bool.{Bool, true, false, cond}
use Prim.Native.Nat.{ℕ, zero, suc, ◌+◌, ◌≤◌, ◌<◌}
use native.Mathlib.Nat.{not-suc-le-zero}
use native.Mathlib.Decide.{ℕ_discrete}
use native.Mathlib.Numerals.{add-one}
use native.Mathlib.Omega.{arith}
use borrow.Author.Tests.{lt-ltb, le-ltb, ltb-true, ltb-false}
use lib.Dec.{ltb}
use Rattle.integers.specs.Search.{first_where}

pub record None (p : ℕ → Bool) (k : ℕ) : Type 0 where
  pub at : (i : ℕ) → i < k → p i ≡ false

pub none_zero : {p : ℕ → Bool} → None p 0
none_zero = record { at = λ i h. absurd (not-suc-le-zero h) }

pub none_suc : {p : ℕ → Bool} {k : ℕ} → None p k → p k ≡ false → None p (k + 1)
none_suc {p} {k} f e =
    record { at = λ i h. elim (ℕ_discrete i k) [ yes q ↦ rw q e | no q ↦ f.at i (omega arith) ] }

pub first_where-none : (m : ℕ) {k : ℕ} {p : ℕ → Bool} → m ≤ k → None p k → first_where m p ≡ m
unfolding first_where
first_where-none zero l f = refl
first_where-none (suc m) {p = p} l f =
    let e : first_where m p ≡ m = first_where-none m (omega arith) f in
    rw (e, le-ltb m m (omega arith), f.at m (omega arith))

pub first_where_found : (k i : ℕ) {p : ℕ → Bool} → i < k → None p i → p i ≡ true → first_where k p ≡ i
unfolding first_where
first_where_found zero i h f e = absurd (not-suc-le-zero h)
first_where_found (suc k) i {p} h f e =
    elim (ℕ_discrete i k) [
      | yes q ↦ let g : first_where k p ≡ k = first_where-none k (omega arith) f in
          rw (g, le-ltb k k (omega arith), rw q at e) (ap (λ (j : ℕ). j) (omega arith))
      | no q ↦ let g : first_where k p ≡ i = first_where_found k i (omega arith) f e in rw (g, lt-ltb i k (omega arith))
    ]

pub none_le : {p : ℕ → Bool} {k m : ℕ} → m ≤ k → None p k → None p m
none_le l f = record { at = λ i h. f.at i (omega arith) }

-- the result passes the test where it is below the bound, and nothing before it does
pub record First (k : ℕ) (p : ℕ → Bool) (i : ℕ) : Type 0 where
  pub inside : i ≤ k
  pub before : None p i
  pub holds : i < k → p i ≡ true

pub first_where_first : (k : ℕ) (p : ℕ → Bool) → First k p (first_where k p)
unfolding first_where
first_where_first zero p = record { inside = omega arith; before = none_zero; holds = λ h. absurd (not-suc-le-zero h) }
first_where_first (suc k) p = by_tests (ltb (first_where k p) k) (p k) refl refl (first_where_first k p)
  where
    by_tests : (s t : Bool) → ltb (first_where k p) k ≡ s → p k ≡ t → First k p (first_where k p) → First (suc k) p (cond s (first_where k p) (cond t k (suc k)))
    by_tests true t e d f =
        record { inside = omega (arith, f.inside); before = f.before; holds = λ h. f.holds (ltb-true (first_where k p) k e) }
    by_tests false true e d f =
        record { inside = omega arith; before = none_le (ltb-false (first_where k p) k e) f.before; holds = λ h. d }
    by_tests false false e d f =
        record { inside = omega arith; before = rw (← add-one k) (none_suc (none_le (ltb-false (first_where k p) k e) f.before) d); holds = λ h. absurd (let b : ⊥ = omega arith in b) }

pub first_where_cong : (k : ℕ) (p q : ℕ → Bool) → ((i : ℕ) → i < k → p i ≡ q i) → first_where k p ≡ first_where k q
unfolding first_where
first_where_cong zero p q h = refl
first_where_cong (suc k) p q h = rw (first_where_cong k p q (λ i l. h i (omega arith)), h k (omega arith))
