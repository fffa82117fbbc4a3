-- The up-right diagonal order: H.265 clause 6.5.3. A position is row × width + column.
--   inside w x y       the position at column x and row y, where it lies in a block of width w
--   diagonal w y x     the positions from column x and row y on, each a step up and to the right of the one before
--   diagonals k w d    k diagonals, the first of them from row d of column 0
--   up_right w          the positions of a block in their order: the diagonals from the upper left to the lower right, each from its lower left end
use Rattle.std.specs.Prelude.{cond, ◌&&◌, List, [], ◌∷◌, ◌++◌, ℕ, zero, suc, ◌+◌, ◌-◌, ◌*◌, ltb}

unfoldable pub inside : ℕ → ℕ → ℕ → List ℕ
inside w x y = cond (ltb x w && ltb y w) ((y * w + x) ∷ []) []

unfoldable pub diagonal : ℕ → ℕ → ℕ → List ℕ
diagonal w zero x = inside w x zero
diagonal w (suc y) x = inside w x (suc y) ++ diagonal w y (suc x)

unfoldable pub diagonals : ℕ → ℕ → ℕ → List ℕ
diagonals zero w d = []
diagonals (suc k) w d = diagonal w d 0 ++ diagonals k w (suc d)

unfoldable pub up_right : ℕ → List ℕ
up_right w = diagonals (2 * w - 1) w 0
