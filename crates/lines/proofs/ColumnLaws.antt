-- One column of a list of sums, and of values.
--   sums_at, values_at   a lane of the sums or the values at a place is the column's number there
--   zeros_column         of copies of sums with zero in a lane, that lane's column has zeros alone
use mathlib.Core.Path.{◌≡◌, refl, sym, ap, ◌∙◌, subst}
use mathlib.Core.List.{List}
use Prim.Native.Nat.{ℕ, zero, suc, ◌<◌}
use lib.IntN.{ℤ, pos}
use lib.ListN.{get_or, length, replicate, get_or-map}
use Rattle.std.proofs.lemmas.List.{get_or-map as get_or-map_in}
use Rattle.vectors.specs.Lanes.{lane, column}
use Rattle.vectors.specs.declared.Sums.{Sums}
use Rattle.vectors.specs.declared.Values.{Values}

pub sums_at : (xs : List Sums) (i : ℕ) → i < length xs → (j : ℕ) (d : Sums) → lane j (get_or xs i d).v ≡ get_or (column (λ q. q.v) j xs) i (pos 0)
sums_at xs i l j d = sym (get_or-map_in (λ (q : Sums). lane j q.v) xs i d (pos 0) l)

pub values_at : (xs : List Values) (i : ℕ) → i < length xs → (j : ℕ) (d : Values) → lane j (get_or xs i d).v ≡ get_or (column (λ q. q.v) j xs) i (pos 0)
values_at xs i l j d = sym (get_or-map_in (λ (q : Values). lane j q.v) xs i d (pos 0) l)

copy_at : (n : ℕ) (a : Sums) (i : ℕ) → get_or (replicate n a) i a ≡ a
copy_at zero a i = refl
copy_at (suc n) a zero = refl
copy_at (suc n) a (suc i) = copy_at n a i

pub zeros_column : (j n : ℕ) (a : Sums) → lane j a.v ≡ pos 0 → (i : ℕ) → get_or (column (λ q. q.v) j (replicate n a)) i (pos 0) ≡ pos 0
zeros_column j n a e i =
    subst (λ (z : ℤ). get_or (column (λ (q : Sums). q.v) j (replicate n a)) i z ≡ z) e
    (get_or-map (λ (q : Sums). lane j q.v) (replicate n a) i a ∙ ap (λ (q : Sums). lane j q.v) (copy_at n a i))
