-- Laws of counts, and of loops that count one index after the other.
--   count_le     a count is at most the number of its indices
--   count_cong   two tests that agree at every index counted give one count
--   Tally        the invariant of a loop that has counted the indices below k; tally_none, -more, -room, -small, -all are its needs
use mathlib.Core.Path.{◌≡◌, refl, ap, ap₂, ◌∙◌}
use mathlib.Core.Bool.{Bool, true, false, cond}
use Prim.Native.Nat.{ℕ, zero, suc, ◌+◌, ◌≤◌, ◌<◌}
use native.Mathlib.Numerals.{add-one}
use native.Mathlib.Omega.{arith}
use Rattle.h265.specs.Limited.{count_of}

once_le : (b : Bool) → cond b 1 0 ≤ 1
once_le true = omega arith
once_le false = omega arith

count_suc : (f : ℕ → Bool) (k : ℕ) → count_of f k + cond (f k) 1 0 ≡ count_of f (k + 1)
unfolding count_of
count_suc f k = rw (add-one k)

pub count_le : (f : ℕ → Bool) (k : ℕ) → count_of f k ≤ k
unfolding count_of
count_le f zero = omega arith
count_le f (suc k) = omega (arith, count_le f k, once_le (f k))

pub count_cong : (f g : ℕ → Bool) (k : ℕ) → ((i : ℕ) → i < k → f i ≡ g i) → count_of f k ≡ count_of g k
unfolding count_of
count_cong f g zero e = refl
count_cong f g (suc k) e =
    ap₂ (λ (c : ℕ) (z : Bool). c + cond z 1 0) (count_cong f g k (λ i h. e i (omega arith))) (e k (omega arith))

-- m of the indices below k pass f
pub record Tally (f : ℕ → Bool) (k m : ℕ) : Type 0 where
  pub is : m ≡ count_of f k

pub tally_none : {f : ℕ → Bool} → Tally f 0 0
unfolding count_of
tally_none = record { is = refl }

module _ {f : ℕ → Bool} {k m : ℕ} (t : Tally f k m) where
  pub tally_more : {v : ℕ} → v ≡ cond (f k) 1 0 → Tally f (k + 1) (m + v)
  tally_more h = record { is = ap₂ ◌+◌ t.is h ∙ count_suc f k }

  pub tally_small : m ≤ k
  tally_small = omega (arith, t.is, count_le f k)

  pub tally_room : {v : ℕ} → v ≡ cond (f k) 1 0 → m + v ≤ k + 1
  tally_room h = omega (arith, tally_small, h, once_le (f k))

  pub tally_all : {n : ℕ} → k ≡ n → m ≡ count_of f n
  tally_all e = t.is ∙ ap (count_of f) e
