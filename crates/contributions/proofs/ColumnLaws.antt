-- Columns of the matrices as the tables have them, and the contributions by two of them.
--   column_stored              n stores of a column's entries
--   product_at                 the product at an index
--   products_are               the products by two columns are the contributions
--   kind_dct, kind_dst         the contributions of a kind
use mathlib.Core.Path.{◌≡◌, sym, ap, ap₂, subst, ◌∙◌}
use mathlib.Core.List.{List}
use Prim.Native.Nat.{ℕ, ◌*◌, ◌/◌, ◌%◌}
use native.Mathlib.Nat.{div-add-mod'}
use lib.IntN.{ℤ, pos, ◌*ℤ◌}
use lib.ListN.{get_or, replicate}
use Rattle.integers.specs.Lists.{overwrite}
use Rattle.integers.proofs.ListsLaws.{overwrite_cong, overwrite-get_or, Stored, stored_all}
use Rattle.h265.specs.Matrix.{trans_matrix, dst_matrix}
use Rattle.h265.specs.Transform.{block_at, row_order}
use Rattle.h265.proofs.TransformLaws.{row_order_cong}
use Rattle.transform_1d.specs.declared.Kind.{Kind}
use Rattle.transform_1d.specs.declared.Kind.TheVariants.{Dct, Dst}
use Rattle.transform_1d.specs.MatrixOf.{matrix_of}
use Rattle.contributions.specs.Sample.{contribution}
use Rattle.contributions.specs.Work.{ColumnOf, product_of}

-- n stores of a column's entries
pub column_stored : {t : ℕ → ℕ → ℤ} {n m k : ℕ} {xs : List ℤ} → k ≡ n → Stored (λ i. t i m) (replicate 32 (pos 0)) k xs → ColumnOf t n m xs
column_stored {t} {n} {m} {k} {xs} e s =
    record { at = λ i l. ap (λ (ys : List ℤ). get_or ys i (pos 0)) (stored_all s e) ∙ overwrite-get_or n (λ i. t i m) (replicate 32 (pos 0)) i (pos 0) l }

-- the product at an index
pub product_at : (u v : List ℤ) (n : ℕ) (d : List ℤ) (i : ℕ)
    → (get_or u (i / n) (pos 0) *ℤ get_or v (i % n) (pos 0)) *ℤ get_or d i (pos 0) ≡ row_order n (product_of u v n d) i
unfolding row_order product_of block_at
product_at u v n d i = ap (λ (q : ℕ). (get_or u (i / n) (pos 0) *ℤ get_or v (i % n) (pos 0)) *ℤ get_or d q (pos 0)) (sym (div-add-mod' i n))

pub products_are : {t : ℕ → ℕ → ℤ} {n m j : ℕ} {u v : List ℤ} (d out : List ℤ) → ColumnOf t n m u → ColumnOf t n j v
    → overwrite (n * n) (row_order n (product_of u v n d)) out ≡ overwrite (n * n) (row_order n (contribution t n d m j)) out
unfolding product_of contribution
products_are {t} {n} {m} {j} {u} {v} d out p q =
    overwrite_cong (n * n) (row_order n (product_of u v n d)) (row_order n (contribution t n d m j)) out
    (row_order_cong n (product_of u v n d) (contribution t n d m j) (λ k c hk hc. ap₂ (λ (x y : ℤ). (x *ℤ y) *ℤ block_at n d k c) (p.at k hk) (q.at c hc)))

-- ---- by kind
module _ {kind : Kind} (n : ℕ) (d : List ℤ) (m j : ℕ) (out : List ℤ) {after : List ℤ} where
  pub kind_dct : kind ≡ Dct → after ≡ overwrite (n * n) (row_order n (contribution (trans_matrix n) n d m j)) out
      → after ≡ overwrite (n * n) (row_order n (contribution (matrix_of kind n) n d m j)) out
  unfolding matrix_of
  kind_dct e h = subst (λ (k : Kind). after ≡ overwrite (n * n) (row_order n (contribution (matrix_of k n) n d m j)) out) (sym e) h

  pub kind_dst : kind ≡ Dst → n ≡ 4 → after ≡ overwrite 16 (row_order 4 (contribution dst_matrix 4 d m j)) out
      → after ≡ overwrite (n * n) (row_order n (contribution (matrix_of kind n) n d m j)) out
  unfolding matrix_of
  kind_dst e s h = rw (e, s) h
