-- `rounding::dct_sum` meets its contract: three arms name a size, and the fourth size is what is left.
use mathlib.Core.Path.{◌≡◌, refl}
use Prim.Native.Nat.{ℕ}
use lib.Dec.{T}
use Rattle.h265.specs.Range.{is_size}
use Rattle.h265.proofs.RangeLaws.{size_cases}
use Rattle.rounding.specs.Exact.{dct_sum}
use Rattle.rounding.proofs.dct_sum.Goals as goal

pub returns-in-4 : goal.returns-in-4
unfolding dct_sum
returns-in-4 c = rw c.in-4.is

pub returns-in-8 : goal.returns-in-8
unfolding dct_sum
returns-in-8 c = rw c.in-8.is

pub returns-in-16 : goal.returns-in-16
unfolding dct_sum
returns-in-16 c = rw c.in-16.is

last : (n : ℕ) → T (is_size n) → (n ≡ 4 → ⊥) → (n ≡ 8 → ⊥) → (n ≡ 16 → ⊥) → ◌≡◌ {A = ℕ} 1862 (dct_sum n)
unfolding dct_sum
last n t =
    size_cases (λ m. (m ≡ 4 → ⊥) → (m ≡ 8 → ⊥) → (m ≡ 16 → ⊥) → ◌≡◌ {A = ℕ} 1862 (dct_sum m))
    (λ a b d. absurd (a refl)) (λ a b d. absurd (b refl)) (λ a b d. absurd (d refl)) (λ a b d. refl) n t

pub returns-in_default : goal.returns-in_default
returns-in_default c = let r = c.in_default.in_default-own.rest in last c.args.n c.requires r.0.0.1 r.0.1 r.1
