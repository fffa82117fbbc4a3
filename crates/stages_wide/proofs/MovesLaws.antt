-- Laws of blocks turned over, and of columns taken and put.
--   turned_rows   a stage over a block that is turned over is stage two of the block
--   put-rows      the rows of stage one, limited and put as columns, are the intermediate
--   put_one_lem       so is one column
--   put_row_lem   so is one of its rows
--   moved_32      a column that is moved as it is, as numbers
use mathlib.Core.Path.{◌≡◌, ap, ◌∙◌, subst}
use mathlib.Core.List.{List}
use Prim.Native.Nat.{ℕ, ◌+◌, ◌*◌, ◌≤◌}
use native.Mathlib.Omega.{arith}
use lib.IntN.{ℤ, pos}
use lib.ListN.{length, get_or, take, drop}
use Rattle.std.specs.Prelude.{map}
use Rattle.std.proofs.lemmas.List.{map-id, length-take-le, length-drop, get_or-take, get_or-drop}
use Rattle.h265.specs.Range.{clip_coeff}
use Rattle.h265.specs.Transform.{block_at, stage_one_sum, stage_one_value, intermediate, stage_two_sum, stage_two}
use Rattle.transform_1d.specs.Rows.{Filled}
use Rattle.transform_1d.proofs.RowsLaws.{filled_cong}
use Rattle.stages_wide.specs.Wide.{limited_block}
use Rattle.stages_wide.specs.Parts.{limited_at, stage_of, ColumnPlaced}
use Rattle.stages_wide.proofs.StageLaws.{filled_first, stage_cong}
use Rattle.stages_wide.proofs.ColumnLaws.{column_placed_cong, column_of_length}

pub turned_rows : (t : ℕ → ℕ → ℤ) (n r s : ℕ) (inter : List ℤ) {g₀ g out₀ out : List ℤ} → Filled n n (λ c k. get_or inter (k * n + c) (pos 0)) n g₀ g
    → Filled n n (stage_of t n (limited_block r n g) s) n out₀ out → Filled n n (stage_two t n s (limited_block r n inter)) n out₀ out
unfolding block_at stage_two stage_two_sum
turned_rows t n r s inter {g = g} f p =
    filled_cong (λ m j a b. stage_cong t n s (limited_block r n g) (λ c k. limited_block r n inter k c) m m j (λ c l. ap (clip_coeff r) (f.done c m l a))) p

pub put-rows : (t : ℕ → ℕ → ℤ) (n r : ℕ) (coeff : List ℤ) {g₀ g i₀ i : List ℤ} → Filled n n (stage_of t n (limited_block r n coeff) 7) n g₀ g
    → Filled n n (λ m c. limited_at r g (c * n + m)) n i₀ i → Filled n n (intermediate t n r (limited_block r n coeff)) n i₀ i
unfolding intermediate stage_one_value stage_one_sum
put-rows t n r coeff f p = filled_cong (λ m c a b. ap (clip_coeff r) (f.done c m b a)) p

pub put_one_lem : (t : ℕ → ℕ → ℤ) (n r : ℕ) (coeff : List ℤ) {column : ℕ} {x₀ x r₀ y i₀ i : List ℤ} → ColumnPlaced n 0 (λ k. get_or coeff (k * n + column) (pos 0)) n x₀ x
    → Filled n n (stage_of t n (limited_block r n x) 7) 1 r₀ y → length y ≡ n → ColumnPlaced (length y) column (limited_at r y) (length y) i₀ i
    → ColumnPlaced n column (λ m. intermediate t n r (limited_block r n coeff) m column) n i₀ i
unfolding block_at intermediate stage_one_value stage_one_sum
put_one_lem t n r coeff {column} {x = x} {y = y} p f e q =
    column_placed_cong
    (λ m a. ap (clip_coeff r) (filled_first f m a ∙ stage_cong t n 7 (limited_block r n x) (limited_block r n coeff) 0 column m (λ k l. ap (clip_coeff r) (p.done k l))))
    (column_of_length e q)

-- row c of g, put as a column
pub put_row_lem : {n w : ℕ} (r : ℕ) (g : List ℤ) (c : ℕ) {xs ys : List ℤ} → w ≡ n → c * n + n ≤ length g
    → ColumnPlaced (length (take w (drop (c * n) g))) c (limited_at r (take w (drop (c * n) g))) (length (take w (drop (c * n) g))) xs ys
    → ColumnPlaced n c (λ m. limited_at r g (c * n + m)) n xs ys
put_row_lem {n} {w} r g c e h p =
    column_placed_cong (λ m a. ap (clip_coeff r) (get_or-take w (drop (c * n) g) m (pos 0) (omega arith) ∙ get_or-drop (c * n) g m (pos 0)))
    (column_of_length (length-take-le w (drop (c * n) g) (omega (arith, length-drop (c * n) g)) ∙ e) p)

pub moved_32 : {n c m : ℕ} {f : ℕ → ℤ} {xs ys : List ℤ} → ColumnPlaced n c f m (map (λ (x : ℤ). x) xs) (map (λ (x : ℤ). x) ys) → ColumnPlaced n c f m xs ys
moved_32 {n} {c} {m} {f} {xs} {ys} p =
    subst (λ (zs : List ℤ). ColumnPlaced n c f m zs ys) (map-id xs) (subst (λ (zs : List ℤ). ColumnPlaced n c f m (map (λ (x : ℤ). x) xs) zs) (map-id ys) p)
