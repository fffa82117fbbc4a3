-- Laws of columns that a loop stores.
--   column-place, column-inside     the places of a column are apart, and inside the block
--   column_placed_zero, -suc, -put, -all   no row; one row more, also by another name of its place; all rows
--   column_placed_cong               a column of equal values
--   column_of_length                 a column by another name of its length
--   column_placed_replaced           a whole column: the list with that column replaced
--   filled_columns_zero, -all       no column; the same columns by another name of their number
--   filled-column                   one column more of a block
use mathlib.Core.Path.{◌≡◌, refl, sym, ap, ◌∙◌, subst}
use mathlib.Core.Bool.{cond, ◌&&◌}
use mathlib.Core.List.{List}
use Prim.Native.Nat.{ℕ, ◌+◌, ◌*◌, ◌/◌, ◌%◌, ◌≤◌, ◌<◌}
use native.Mathlib.Nat.{not-suc-le-zero, div-add-mod'}
use native.Mathlib.Decide.{ℕ_discrete, dec_lt}
use native.Mathlib.Omega.{arith}
use borrow.Author.Tests.{lt-ltb, le-ltb, eq-eqb, ne_eqb}
use lib.Arith.{digits_div, digits_mod}
use lib.Dec.{ltb, eqb}
use lib.IntN.{ℤ, pos}
use lib.ListN.{length, get_or, set, length-set}
use lib.Seq.{ext_get_or, get_or-set_same, get_or-set_other}
use Rattle.integers.specs.Lists.{tabulate}
use Rattle.integers.proofs.ListsLaws.{tabulate-length, tabulate-get_or}
use Rattle.transform_1d.specs.Rows.{Filled}
use Rattle.transform_1d.proofs.RowsLaws.{row_unique}
use Rattle.stages_wide.specs.Wide.{column_replaced}
use Rattle.stages_wide.specs.Parts.{ColumnPlaced}

pub column_placed_zero : {n c : ℕ} {f : ℕ → ℤ} {xs : List ℤ} → ColumnPlaced n c f 0 xs xs
column_placed_zero = record { long = refl; done = λ k h. absurd (not-suc-le-zero h); kept = λ i h. refl }

pub column_placed_suc : {n c m : ℕ} {f : ℕ → ℤ} {xs ys : List ℤ} {v : ℤ}
    → c < n → ColumnPlaced n c f m xs ys → m * n + c < length xs → v ≡ f m → ColumnPlaced n c f (m + 1) xs (set ys (m * n + c) v)
column_placed_suc {n} {c} {m} {f} {xs} {ys} {v} h p l e =
    record {
      long = length-set ys (m * n + c) v ∙ p.long;
      done = λ k i.
          elim (ℕ_discrete k m) [
            | yes y ↦ rw y (get_or-set_same ys (m * n + c) v (pos 0) (omega (arith, p.long)) ∙ e)
            | no d ↦ get_or-set_other ys (m * n + c) (k * n + c) v (pos 0) (λ q. d (row_unique n k m c c h h q)) ∙ p.done k (omega arith)
          ];
      kept = λ i k. get_or-set_other ys (m * n + c) i v (pos 0) (λ q. k m (omega arith) q) ∙ p.kept i (λ j a q. k j (omega arith) q);
    }

pub column_placed_put : {n c m : ℕ} {f : ℕ → ℤ} {xs ys : List ℤ} {v : ℤ} {i : ℕ}
    → c < n → ColumnPlaced n c f m xs ys → m * n + c ≡ i → i < length xs → v ≡ f m → ColumnPlaced n c f (m + 1) xs (set ys i v)
column_placed_put {n} {c} {m} {f} {xs} {ys} {v} h p q l e = subst (λ (i : ℕ). ColumnPlaced n c f (m + 1) xs (set ys i v)) q (column_placed_suc h p (omega arith) e)

pub column_placed_all : {n c : ℕ} (m : ℕ) {k : ℕ} {f : ℕ → ℤ} {xs ys : List ℤ} → k ≡ m → ColumnPlaced n c f k xs ys → ColumnPlaced n c f m xs ys
column_placed_all {n} {c} m {f = f} {xs} {ys} e p = subst (λ (k : ℕ). ColumnPlaced n c f k xs ys) e p

pub column_placed_cong : {n c m : ℕ} {f g : ℕ → ℤ} {xs ys : List ℤ} → ((k : ℕ) → k < m → f k ≡ g k) → ColumnPlaced n c f m xs ys → ColumnPlaced n c g m xs ys
column_placed_cong e p = record { long = p.long; done = λ k i. p.done k i ∙ e k i; kept = p.kept }

-- a column by another name of its length
pub column_of_length : {n m c : ℕ} {f : ℕ → ℤ} {xs ys : List ℤ} → m ≡ n → ColumnPlaced m c f m xs ys → ColumnPlaced n c f n xs ys
column_of_length {c = c} {f} {xs} {ys} e p = subst (λ (k : ℕ). ColumnPlaced k c f k xs ys) e p

pub filled-column : {n c : ℕ} {g : ℕ → ℕ → ℤ} {xs ys zs : List ℤ}
    → c < n → Filled n c g n xs ys → ColumnPlaced n c (λ m. g m c) n ys zs → Filled n (c + 1) g n xs zs
filled-column {n} {c} {g} {xs} {ys} {zs} h p q =
    record {
      long = q.long ∙ p.long;
      done = λ r d i j.
          elim (ℕ_discrete d c) [
            | yes y ↦ rw y (q.done r i)
            | no e ↦ q.kept (r * n + d) (λ k a b. e (same_column r k d (omega arith) b)) ∙ p.done r d i (omega arith)
          ];
      kept = λ i k. q.kept i (λ m a b. k m c a (omega arith) b) ∙ p.kept i (λ r d a b e. k r d a (omega arith) e);
    }
  where
    same_column : (r k d : ℕ) → d < n → r * n + d ≡ k * n + c → d ≡ c
    same_column r k d a e = sym (digits_mod r a) ∙ ap (λ (i : ℕ). i % n) e ∙ digits_mod k h

module _ {n c : ℕ} {f : ℕ → ℤ} {xs ys : List ℤ} (h : c < n) (l : n * n ≤ length xs) (p : ColumnPlaced n c f n xs ys) where
  abbrev replaced : ℕ → ℤ
  replaced i = cond (eqb (i % n) c && ltb (i / n) n) (f (i / n)) (get_or xs i (pos 0))

  inside : (i : ℕ) → i % n ≡ c → i / n < n → get_or ys i (pos 0) ≡ replaced i
  inside i e b =
      rw (eq-eqb (i % n) c e, lt-ltb (i / n) n b)
      (ap (λ (j : ℕ). get_or ys j (pos 0)) (sym (div-add-mod' i n) ∙ ap (λ (j : ℕ). i / n * n + j) e) ∙ p.done (i / n) b)

  outside : (i : ℕ) → (i % n ≡ c → i / n < n → ⊥) → get_or ys i (pos 0) ≡ get_or xs i (pos 0)
  outside i d = p.kept i (λ k a e. d (ap (λ (j : ℕ). j % n) e ∙ digits_mod k h) (subst (λ (j : ℕ). j < n) (sym (ap (λ (j : ℕ). j / n) e ∙ digits_div k h)) a))

  at_place : (i : ℕ) → get_or ys i (pos 0) ≡ replaced i
  at_place i =
      elim (ℕ_discrete (i % n) c) [
        | yes e ↦ elim (dec_lt (i / n) n) [
          | yes b ↦ inside i e b
          | no d ↦ outside i (λ a b. d b) ∙ rw (eq-eqb (i % n) c e, le-ltb (i / n) n (omega arith))
        ]
        | no d ↦ outside i (λ a b. d a) ∙ rw (ne_eqb (i % n) c d)
      ]

  pub column_placed_replaced : ys ≡ column_replaced n c f xs
  unfolding column_replaced
  column_placed_replaced =
      ext_get_or (pos 0) ys (tabulate (length xs) replaced) (p.long ∙ sym (tabulate-length (length xs) replaced))
      (λ i b. at_place i ∙ sym (tabulate-get_or (length xs) replaced i (pos 0) (omega (arith, p.long))))

pub filled_columns_zero : {n : ℕ} {g : ℕ → ℕ → ℤ} {r : ℕ} {xs : List ℤ} → Filled n 0 g r xs xs
filled_columns_zero = record { long = refl; done = λ r c i h. absurd (not-suc-le-zero h); kept = λ i h. refl }

pub filled_columns_all : {n : ℕ} (w : ℕ) {k : ℕ} {g : ℕ → ℕ → ℤ} {r : ℕ} {xs ys : List ℤ} → k ≡ w → Filled n k g r xs ys → Filled n w g r xs ys
filled_columns_all {n} w {g = g} {r} {xs} {ys} e p = subst (λ (k : ℕ). Filled n k g r xs ys) e p
