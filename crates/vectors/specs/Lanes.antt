-- Vectors as the lists of their lanes.
--   lane j v        lane j of v; past its lanes, zero
--   column f j xs   lane j of each vector in turn
--   Turned a b c d p q r s   p, q, r and s are a, b, c and d turned over: each has one lane of every one of these
--   EightTurned a b c d p q r s   the same of four times two vectors of four lanes that stand side by side
use Rattle.std.specs.Prelude.{◌≡◌, List, [], ◌∷◌, ℕ, ℤ, ◌+◌, pos, get_or, map}

abbrev pub lane : ℕ → List ℤ → ℤ
lane j v = get_or v j (pos 0)

abbrev pub column : {A : Type 0} → (A → List ℤ) → ℕ → List A → List ℤ
column f j xs = map (λ x. lane j (f x)) xs

abbrev pub four_of : ℕ → List ℤ → List ℤ → List ℤ → List ℤ → List ℤ
four_of j a b c d = lane j a ∷ lane j b ∷ lane j c ∷ lane j d ∷ []

abbrev pub eight_of : ℕ → List ℤ → List ℤ → List ℤ → List ℤ → List ℤ
eight_of j a b c d = lane j a ∷ lane (4 + j) a ∷ lane j b ∷ lane (4 + j) b ∷ lane j c ∷ lane (4 + j) c ∷ lane j d ∷ lane (4 + j) d ∷ []

pub record Turned (a b c d p q r s : List ℤ) : Type 0 where
  pub first : p ≡ four_of 0 a b c d
  pub second : q ≡ four_of 1 a b c d
  pub third : r ≡ four_of 2 a b c d
  pub fourth : s ≡ four_of 3 a b c d

pub record EightTurned (a b c d p q r s : List ℤ) : Type 0 where
  pub first : p ≡ eight_of 0 a b c d
  pub second : q ≡ eight_of 1 a b c d
  pub third : r ≡ eight_of 2 a b c d
  pub fourth : s ≡ eight_of 3 a b c d
