-- Lists by an index function.
--   tabulate n f       f 0, f 1, .., f (n - 1)
--   overwrite k f xs   xs with its first k elements replaced by f 0, .., f (k - 1); the others as in xs
use Rattle.std.specs.Prelude.{List, [], ◌∷◌, ◌++◌, ℕ, zero, suc, drop}

-- f i, f (i + 1), ..: n elements
unfoldable pub tabulate_from : {A : Type 0} → ℕ → ℕ → (ℕ → A) → List A
tabulate_from i zero f = []
tabulate_from i (suc n) f = f i ∷ tabulate_from (suc i) n f

unfoldable pub tabulate : {A : Type 0} → ℕ → (ℕ → A) → List A
tabulate n f = tabulate_from 0 n f

unfoldable pub overwrite : {A : Type 0} → ℕ → (ℕ → A) → List A → List A
overwrite k f xs = tabulate k f ++ drop k xs
