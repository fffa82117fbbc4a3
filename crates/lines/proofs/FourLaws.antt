-- A line by a sum of products for each output, with no even and odd parts, as the DST's.
--   first_fits, all_fits     the sums of four products, and what is added to them, fit 32 bits
--   four_sum                 two pairs of products, and what is added to them, are the sum of four products
--   double_column t n m      twice the entries of the n-point matrix t over output m
--   LineOut, line_out        one output, by a literal column that is twice the matrix's
--   outs                     the outputs of a line
use mathlib.Core.Path.{◌≡◌, ap, ap₂, ◌∙◌, subst}
use mathlib.Core.List.{List}
use Prim.Native.Nat.{ℕ, ◌+◌, ◌*◌, ◌<◌}
use native.Mathlib.Nat.{zero-add}
use native.Mathlib.Decide.{dec_lt}
use native.Mathlib.Omega.{arith}
use lib.IntN.{ℤ, pos, ◌+ℤ◌, ◌*ℤ◌}
use lib.ListN.{get_or, length, get_or-eq_default}
use mir.Syntax.{w16, w32}
use mir.Val.{to_z, of_z, SFits}
use mir.Facts.{to_z-of_z}
use Rattle.integers.specs.Lists.{tabulate}
use Rattle.integers.specs.Sum.{sum}
use Rattle.integers.specs.Within.{Within}
use Rattle.integers.proofs.LinearLaws.{split, ring, diff_ext}
use Rattle.integers.proofs.OrderLaws.{*ℤ_assoc}
use Rattle.integers.proofs.BoundLaws.{within_add, within_eq, within_le, within_pos, within_fits, by_32}
use Rattle.integers.proofs.ListsLaws.{tabulate-get_or}
use Rattle.integers.proofs.SumLaws.{sum_cong, sum_scale}
use Rattle.h265.specs.Transform.{transform_line}
use Rattle.h265.proofs.TransformLaws.{transform_line_cong}
use Rattle.lines.specs.Fold.{value_most, round_most, product_sum, Small, TwiceBy}
use Rattle.lines.proofs.FoldLaws.{Each, each_at}

-- ---- four products
module _ {p q : ℤ} (f : Within (2 * value_most) p) (g : Within (2 * value_most) q) where
  pub first_fits : SFits w32 (p +ℤ q)
  first_fits = by_32 (within_le (omega arith) (within_add f g))

  all_small : {s w : ℤ} → s ≡ p +ℤ q → Within round_most w → Within (4 * value_most + round_most) (s +ℤ w)
  all_small e h = within_le (omega arith) (within_add (within_eq e (within_add f g)) h)

  pub all_fits : {s w : ℤ} → s ≡ p +ℤ q → Within round_most w → SFits w32 (s +ℤ w)
  all_fits e h = by_32 (within_le (omega arith) (all_small e h))

module _ {t : List ℤ} (s : Small 180 t) where
  entry : (k : ℕ) → to_z w16 (of_z w16 (get_or t k (pos 0))) ≡ get_or t k (pos 0)
  entry k = to_z-of_z {w = w16} (within_fits tt (s.at k))

  term : (k : ℕ) {a b : ℤ} → a ≡ b → to_z w16 (of_z w16 (get_or t k (pos 0))) *ℤ a ≡ get_or t k (pos 0) *ℤ b
  term k e = ap₂ ◌*ℤ◌ (entry k) e

  pub four_sum : (xs : List ℤ) {a b c d p q u w r : ℤ}
      → a ≡ get_or xs 0 (pos 0) → b ≡ get_or xs 1 (pos 0) → c ≡ get_or xs 2 (pos 0) → d ≡ get_or xs 3 (pos 0)
      → (p ≡ to_z w16 (of_z w16 (get_or t 0 (pos 0))) *ℤ a +ℤ to_z w16 (of_z w16 (get_or t 1 (pos 0))) *ℤ b) × Within (2 * value_most) p
      → (q ≡ to_z w16 (of_z w16 (get_or t 2 (pos 0))) *ℤ c +ℤ to_z w16 (of_z w16 (get_or t 3 (pos 0))) *ℤ d) × Within (2 * value_most) q
      → Within round_most w → u ≡ p +ℤ q → r ≡ u +ℤ w
      → (r ≡ product_sum 4 t xs +ℤ w) × Within (4 * value_most + round_most) r
  unfolding product_sum sum
  four_sum xs {w = w} ea eb ec ed f g h eu er = (
    er
        ∙ ap (λ (z : ℤ). z +ℤ w)
        (eu ∙ ap₂ ◌+ℤ◌ (f.0 ∙ ap₂ ◌+ℤ◌ (term 0 ea) (term 1 eb)) (g.0 ∙ ap₂ ◌+ℤ◌ (term 2 ec) (term 3 ed)) ∙ regroup (prod 0) (prod 1) (prod 2) (prod 3)),
    within_eq er (all_small f.1 g.1 eu h),
  )
    where
      prod : ℕ → ℤ
      prod k = get_or t k (pos 0) *ℤ get_or xs k (pos 0)

      regroup : (x y z v : ℤ) → (x +ℤ y) +ℤ (z +ℤ v) ≡ pos 0 +ℤ x +ℤ y +ℤ z +ℤ v
      regroup x y z v = rw (← split x, ← split y, ← split z, ← split v) (simp ring (diff_ext _ _ _ _ (omega arith)))

-- ---- a line by its outputs
unfoldable pub double_column : (ℕ → ℕ → ℤ) → ℕ → ℕ → List ℤ
double_column t n m = tabulate n (λ k. pos 2 *ℤ t k m)

-- z is twice output m of the n-point line by t, with w added
pub record LineOut (t : ℕ → ℕ → ℤ) (n : ℕ) (xs : List ℤ) (w : ℤ) (m : ℕ) (z : ℤ) : Type 0 where
  pub is : z ≡ pos 2 *ℤ transform_line t n (λ k. get_or xs k (pos 0)) m +ℤ w
  pub small : Within (n * value_most + round_most) z

module _ (t : ℕ → ℕ → ℤ) (n : ℕ) {xs : List ℤ} {w : ℤ} where
  -- the literal column c is the matrix's, by computation
  pub line_out : {c : List ℤ} (m : ℕ) {z : ℤ} → c ≡ double_column t n m
      → (z ≡ product_sum n c xs +ℤ w) × Within (n * value_most + round_most) z → LineOut t n xs w m z
  unfolding product_sum double_column transform_line
  line_out {c} m e (d, f) =
      record {
        is = d
            ∙ ap (λ (y : ℤ). y +ℤ w)
            (sum_cong n (λ k. get_or c k (pos 0) *ℤ get_or xs k (pos 0)) (λ k. pos 2 *ℤ (t k m *ℤ get_or xs k (pos 0)))
            (λ k l. ap (λ (y : ℤ). y *ℤ get_or xs k (pos 0)) (ap (λ (x : List ℤ). get_or x k (pos 0)) e ∙ tabulate-get_or n (λ k. pos 2 *ℤ t k m) k (pos 0) l)
            ∙ *ℤ_assoc (pos 2) (t k m) (get_or xs k (pos 0)))
            ∙ sum_scale (pos 2) n (λ k. t k m *ℤ get_or xs k (pos 0)));
        small = f;
      }

  pub outs : {z : List ℤ} → length z ≡ n → Each (LineOut t n xs w) 0 z → TwiceBy t n 1 xs w z
  outs {z} e p =
      record {
        at = λ m l.
            (out m l).is
            ∙ ap (λ (y : ℤ). pos 2 *ℤ y +ℤ w)
            (transform_line_cong t n (λ k. get_or xs k (pos 0)) (λ k. get_or xs (1 * k) (pos 0)) m (λ k a. ap (λ (i : ℕ). get_or xs i (pos 0)) (let f : k ≡ 1 * k = omega arith in f)));
        small = record {
          at = λ i.
              elim (dec_lt i n) [
                | yes l ↦ (out i l).small
                | no d ↦ within_eq (get_or-eq_default z (pos 0) (omega arith)) (within_pos (omega arith))
              ];
        };
      }
    where
      out : (m : ℕ) → m < n → LineOut t n xs w m (get_or z m (pos 0))
      out m l = subst (λ (j : ℕ). LineOut t n xs w j (get_or z m (pos 0))) (zero-add m) (each_at p m (omega arith))
