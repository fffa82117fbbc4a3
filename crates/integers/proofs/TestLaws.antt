-- Laws of tests.
--   neither        where one test or another does not apply, neither does
--   all_below       whether a test passes at every number below a bound, to be computed
--   all_below_at    what it says of each
use mathlib.Core.Path.{◌≡◌, refl, sym, subst}
use mathlib.Core.Bool.{Bool, true, false, ◌&&◌, ◌||◌}
use Prim.Native.Nat.{ℕ, zero, suc, ◌<◌}
use native.Mathlib.Nat.{not-suc-le-zero}
use native.Mathlib.Decide.{ℕ_discrete}
use native.Mathlib.Omega.{arith}
use lib.Dec.{T}
use mir.Facts.{and_yes}

pub neither : (s t : Bool) → s || t ≡ false → (s ≡ false) × (t ≡ false)
neither true t e = absurd (subst T e tt)
neither false t e = (refl, e)

unfoldable pub all_below : ℕ → (ℕ → Bool) → Bool
all_below zero f = true
all_below (suc n) f = f n && all_below n f

pub all_below_at : (n : ℕ) (f : ℕ → Bool) → T (all_below n f) → (k : ℕ) → k < n → T (f k)
unfolding all_below
all_below_at zero f t k h = absurd (not-suc-le-zero h)
all_below_at (suc n) f t k h =
    elim (ℕ_discrete k n) [
      | yes e ↦ subst (λ (i : ℕ). T (f i)) (sym e) (and_yes (f n) (all_below n f) t).0
      | no d ↦ all_below_at n f (and_yes (f n) (all_below n f) t).1 k (omega arith)
    ]
