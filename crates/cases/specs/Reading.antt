-- What a reader loses for what is read from it, where the bytes that it has left are known.
use Rattle.std.specs.Prelude.{ℕ, List, [], ◌∷◌, take, cond, eqb}
use Rattle.std.specs.declared.option.Option.{Option}
use Rattle.std.specs.List.{FoldsTo}
use Rattle.std.specs.Io.KnownBytes.{Consumes}

-- the bytes of x; only the first ones, where the reader ends or fails
abbrev pub Gives : {A : Type 0} → (A → List ℕ) → Option (List ℕ) → A → Option (List ℕ) → Type 0
Gives bytes old x new = (n : ℕ) × Consumes old new (take n (bytes x))

-- the same for each of xs, in order
abbrev pub GivesEach : {A : Type 0} → (A → List ℕ) → Option (List ℕ) → List A → Option (List ℕ) → Type 0
GivesEach bytes old xs new = FoldsTo (Gives bytes) old xs new

-- the bytes of a number of one byte
abbrev pub one_byte : ℕ → List ℕ
one_byte x = x ∷ []

-- the number that a byte stands for
abbrev pub named : ℕ → ℕ
named byte = cond (eqb byte 255) 18446744073709551615 byte
