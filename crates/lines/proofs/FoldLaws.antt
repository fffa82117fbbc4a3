-- A line from its even and odd parts, with a number added to each output, and the dot products.
--   plus_fits, minus_fits    the sums and differences of the parts fit 32 bits
--   FoldedTo, folded_none, folded_next   the loop that adds and subtracts the parts
--   parts_fit                a line of h points and an odd part are what putting parts together asks
--   fold                     the one law: twice the h-point line and twice the odd part make twice the 2h-point line
--   fold_2 to fold_16        the same at each size
--   dot_out, odds            dot products by the literal columns are the odd part
--   two_first, two_plus, two_minus, line_two   the line of two points, where all starts
use mathlib.Core.Path.{◌≡◌, refl, sym, ap, ap₂, ◌∙◌, subst}
use mathlib.Core.List.{List, [], ◌∷◌}
use Prim.Native.Nat.{ℕ, zero, suc, ◌+◌, ◌*◌, ◌-◌, ◌/◌, ◌≤◌, ◌<◌}
use native.Mathlib.Nat.{not-suc-le-zero, zero-add}
use native.Mathlib.Decide.{ℕ_discrete, dec_lt}
use native.Mathlib.Omega.{arith}
use lib.Dec.{T}
use lib.IntN.{ℤ, pos, negsuc, ◌+ℤ◌, ◌-ℤ◌, ◌*ℤ◌}
use lib.ListN.{get_or, length, set, length-set, get_or-eq_default}
use lib.Seq.{get_or-set_same, get_or-set_other}
use mir.Syntax.{w32}
use mir.Val.{SFits}
use Rattle.integers.specs.Sum.{sum}
use Rattle.integers.specs.Within.{Within}
use Rattle.integers.proofs.LinearLaws.{split, ring, diff_ext}
use Rattle.integers.proofs.OrderLaws.{*ℤ_assoc}
use Rattle.integers.proofs.BoundLaws.{within_add, within_neg, within_eq, within_le, within_pos, by_32}
use Rattle.integers.proofs.ListsLaws.{tabulate-get_or}
use Rattle.integers.proofs.SumLaws.{sum_cong, sum_scale}
use Rattle.h265.specs.Matrix.{folding_values, folding, folded_entry, folded_angle, trans_matrix32, trans_matrix}
use Rattle.h265.specs.Transform.{transform_line}
use Rattle.h265.proofs.TransformLaws.{transform_line_cong}
use Rattle.lines.specs.Fold.{value_most, round_most, dot_sum, odd_sum, odd_column, Small, FoldNeeds, Twice, TwiceOdd, Folded}
use Rattle.integers.proofs.TestLaws.{all_below}
use Rattle.lines.proofs.SplitLaws.{mirrors, line_low, line_high}

-- ---- the sums and differences that are stored
module _ {h m : ℕ} {e o : List ℤ} (a : FoldNeeds h m e o) where
  both : (i : ℕ) → Within (2 * h * value_most + round_most) (get_or e i (pos 0) +ℤ get_or o i (pos 0))
  both i = within_le (omega arith) (within_add (a.even_small.at i) (a.odd_small.at i))

  less : (i : ℕ) → Within (2 * h * value_most + round_most) (get_or e i (pos 0) -ℤ get_or o i (pos 0))
  less i = within_le (omega arith) (within_add (a.even_small.at i) (within_neg (a.odd_small.at i)))

  pub plus_fits : (i : ℕ) → SFits w32 (get_or e i (pos 0) +ℤ get_or o i (pos 0))
  plus_fits i = by_32 (within_le (omega (arith, a.most)) (both i))

  pub minus_fits : (i : ℕ) → SFits w32 (get_or e i (pos 0) -ℤ get_or o i (pos 0))
  minus_fits i = by_32 (within_le (omega (arith, a.most)) (less i))

-- ---- the loop that folds: the first k sums, and as many differences
pub record FoldedTo (h : ℕ) (e o : List ℤ) (k : ℕ) (z : List ℤ) : Type 0 where
  pub long : length z ≡ 2 * h
  pub low : (m : ℕ) → m < k → get_or z m (pos 0) ≡ get_or e m (pos 0) +ℤ get_or o m (pos 0)
  pub high : (m : ℕ) → m < k → get_or z (2 * h - 1 - m) (pos 0) ≡ get_or e m (pos 0) -ℤ get_or o m (pos 0)
  pub small : Small (2 * h * value_most + round_most) z

small_set : {b : ℕ} {z : List ℤ} (i : ℕ) {v : ℤ} → i < length z → Small b z → Within b v → Small b (set z i v)
small_set {z = z} i {v} l p w =
    record {
      at = λ j.
          elim (ℕ_discrete j i) [
            | yes y ↦ rw y (within_eq (get_or-set_same z i v (pos 0) l) w)
            | no d ↦ within_eq (get_or-set_other z i j v (pos 0) d) (p.at j)
          ];
    }

pub folded_none : {h n : ℕ} {e o z : List ℤ} → FoldNeeds h n e o → length z ≡ n → ((i : ℕ) → get_or z i (pos 0) ≡ pos 0) → FoldedTo h e o 0 z
folded_none a l p =
    record {
      long = l ∙ a.twice;
      low = λ m b. absurd (not-suc-le-zero b);
      high = λ m b. absurd (not-suc-le-zero b);
      small = record { at = λ i. within_eq (p i) (within_pos (omega arith)) };
    }

pub folded_next : {h n : ℕ} {e o z : List ℤ} {k : ℕ} {v w : ℤ} → FoldNeeds h n e o → FoldedTo h e o k z → k < h
    → v ≡ get_or e k (pos 0) +ℤ get_or o k (pos 0) → w ≡ get_or e k (pos 0) -ℤ get_or o k (pos 0)
    → FoldedTo h e o (k + 1) (set (set z k v) (n - 1 - k) w)
folded_next {h} {n} {e} {o} {z} {k} {v} {w} a f l v_is w_is =
    rw a.twice
    record {
      long = length-set y (2 * h - 1 - k) w ∙ long;
      low = λ m b.
          get_or-set_other y (2 * h - 1 - k) m w (pos 0) (λ x. let c : ⊥ = omega arith in c)
          ∙ elim (ℕ_discrete m k) [
            | yes x ↦ rw x (get_or-set_same z k v (pos 0) (omega (arith, f.long)) ∙ v_is)
            | no d ↦ get_or-set_other z k m v (pos 0) d ∙ f.low m (omega arith)
          ];
      high = λ m b.
          elim (ℕ_discrete m k) [
            | yes x ↦ rw x (get_or-set_same y (2 * h - 1 - k) w (pos 0) (omega (arith, long)) ∙ w_is)
            | no d ↦ get_or-set_other y (2 * h - 1 - k) (2 * h - 1 - m) w (pos 0) (λ x. d (omega arith))
                ∙ get_or-set_other z k (2 * h - 1 - m) v (pos 0) (λ x. let c : ⊥ = omega arith in c)
                ∙ f.high m (omega arith)
          ];
      small = small_set (2 * h - 1 - k) (omega (arith, long))
          (small_set k (omega (arith, f.long)) f.small (within_eq v_is (both a k)))
          (within_eq w_is (less a k));
    }
  where
    y : List ℤ
    y = set z k v

    long : length (set z k v) ≡ 2 * h
    long = length-set z k v ∙ f.long

pub parts_fit : {h m st su : ℕ} {xs ys : List ℤ} {r : ℤ} {e o : List ℤ} → m ≡ 2 * h → h ≤ 16 → Twice h st xs r e → TwiceOdd h su ys o → FoldNeeds h m e o
parts_fit d l p q = record { twice = d; most = l; even_small = p.small; odd_small = q.small }

-- ---- the one law
twice_sum : (a b r : ℤ) → pos 2 *ℤ a +ℤ r +ℤ pos 2 *ℤ b ≡ pos 2 *ℤ (a +ℤ b) +ℤ r
twice_sum a b r = rw (← split a, ← split b, ← split r) (simp ring (diff_ext _ _ _ _ (omega arith)))

twice_difference : (a b r : ℤ) → pos 2 *ℤ a +ℤ r -ℤ pos 2 *ℤ b ≡ pos 2 *ℤ (a -ℤ b) +ℤ r
twice_difference a b r = rw (← split a, ← split b, ← split r) (simp ring (diff_ext _ _ _ _ (omega arith)))

module _ (h st : ℕ) (steps : 2 * (32 / (2 * h)) ≡ 32 / h) (mirrored : T (mirrors h)) where
  abbrev even_part : List ℤ → ℕ → ℤ
  even_part xs m = transform_line (trans_matrix h) h (λ k. get_or xs (st * (2 * k)) (pos 0)) m

  even_is : {xs : List ℤ} {r : ℤ} {e : List ℤ} → Twice h (2 * st) xs r e → (m : ℕ) → m < h → get_or e m (pos 0) ≡ pos 2 *ℤ even_part xs m +ℤ r
  even_is {xs} {r} p m l =
      p.at m l
      ∙ ap (λ (x : ℤ). pos 2 *ℤ x +ℤ r)
      (transform_line_cong (trans_matrix h) h (λ k. get_or xs (2 * st * k) (pos 0)) (λ k. get_or xs (st * (2 * k)) (pos 0)) m
      (λ k a. ap (λ (i : ℕ). get_or xs i (pos 0)) (omega arith)))

  pub fold : {xs : List ℤ} {r : ℤ} {e o z : List ℤ} → Twice h (2 * st) xs r e → TwiceOdd h st xs o → Folded h e o z → Twice (2 * h) st xs r z
  unfolding odd_sum
  fold {xs} {r} {e} {o} {z} p q f =
      record {
        at = λ m l.
            elim (dec_lt m h) [
              | yes a ↦ low m a
              | no d ↦ subst (λ (i : ℕ). get_or z i (pos 0) ≡ pos 2 *ℤ transform_line (trans_matrix (2 * h)) (2 * h) (λ k. get_or xs (st * k) (pos 0)) i +ℤ r)
                  (let b : 2 * h - 1 - (2 * h - 1 - m) ≡ m = omega arith in b) (high (2 * h - 1 - m) (omega arith))
            ];
        small = f.small;
      }
    where
      low : (m : ℕ) → m < h → get_or z m (pos 0) ≡ pos 2 *ℤ transform_line (trans_matrix (2 * h)) (2 * h) (λ k. get_or xs (st * k) (pos 0)) m +ℤ r
      low m l =
          f.low m l
          ∙ ap₂ ◌+ℤ◌ (even_is p m l) (q.at m l)
          ∙ twice_sum (even_part xs m) (odd_sum h st xs m) r
          ∙ ap (λ (x : ℤ). pos 2 *ℤ x +ℤ r) (sym (line_low h steps (λ k. get_or xs (st * k) (pos 0)) m))

      high : (m : ℕ) → m < h → get_or z (2 * h - 1 - m) (pos 0) ≡ pos 2 *ℤ transform_line (trans_matrix (2 * h)) (2 * h) (λ k. get_or xs (st * k) (pos 0)) (2 * h - 1 - m) +ℤ r
      high m l =
          f.high m l
          ∙ ap₂ ◌-ℤ◌ (even_is p m l) (q.at m l)
          ∙ twice_difference (even_part xs m) (odd_sum h st xs m) r
          ∙ ap (λ (x : ℤ). pos 2 *ℤ x +ℤ r) (sym (line_high h steps mirrored (λ k. get_or xs (st * k) (pos 0)) m l))

-- the same at each size, where the matrix mirrors by computation
pub fold_2 : {st : ℕ} {xs : List ℤ} {r : ℤ} {e o z : List ℤ} → Twice 2 (2 * st) xs r e → TwiceOdd 2 st xs o → Folded 2 e o z → Twice 4 st xs r z
unfolding mirrors all_below trans_matrix trans_matrix32 folded_entry folded_angle folding folding_values
fold_2 = fold 2 _ refl tt

pub fold_4 : {st : ℕ} {xs : List ℤ} {r : ℤ} {e o z : List ℤ} → Twice 4 (2 * st) xs r e → TwiceOdd 4 st xs o → Folded 4 e o z → Twice 8 st xs r z
unfolding mirrors all_below trans_matrix trans_matrix32 folded_entry folded_angle folding folding_values
fold_4 = fold 4 _ refl tt

pub fold_8 : {st : ℕ} {xs : List ℤ} {r : ℤ} {e o z : List ℤ} → Twice 8 (2 * st) xs r e → TwiceOdd 8 st xs o → Folded 8 e o z → Twice 16 st xs r z
unfolding mirrors all_below trans_matrix trans_matrix32 folded_entry folded_angle folding folding_values
fold_8 = fold 8 _ refl tt

pub fold_16 : {xs : List ℤ} {r : ℤ} {e o z : List ℤ} → Twice 16 2 xs r e → TwiceOdd 16 1 xs o → Folded 16 e o z → Twice 32 1 xs r z
unfolding mirrors all_below trans_matrix trans_matrix32 folded_entry folded_angle folding folding_values
fold_16 = fold 16 1 refl tt

-- ---- dot products
-- p i x, p (i + 1) y, .. of the elements x, y, ..
pub data Each (p : ℕ → ℤ → Type 0) : ℕ → List ℤ → Type 0 where
  end : {i : ℕ} → Each p i []
  ◌then◌ : {i : ℕ} {x : ℤ} {xs : List ℤ} → p i x → Each p (suc i) xs → Each p i (x ∷ xs)

infixr 5 ◌then◌
pub each_at : {p : ℕ → ℤ → Type 0} {i : ℕ} {xs : List ℤ} → Each p i xs → (k : ℕ) → k < length xs → p (i + k) (get_or xs k (pos 0))
each_at end k l = absurd (not-suc-le-zero l)
each_at {p} {i} (◌then◌ {x = x} a e) zero l = subst (λ (j : ℕ). p j x) (let f : i ≡ i + 0 = omega arith in f) a
each_at {p} {i} (◌then◌ {xs = xs} a e) (suc k) l =
    subst (λ (j : ℕ). p j (get_or xs k (pos 0))) (let f : suc i + k ≡ i + suc k = omega arith in f) (each_at e k (omega arith))

-- r is twice the odd part at output m
pub record OddOut (h st : ℕ) (xs : List ℤ) (m : ℕ) (r : ℤ) : Type 0 where
  pub is : r ≡ pos 2 *ℤ odd_sum h st xs m
  pub small : Within (h * value_most) r

-- the literal column t is the rule's, by computation
pub dot_out : (h st : ℕ) {xs t : List ℤ} (m : ℕ) {r : ℤ} → t ≡ odd_column h m → (r ≡ dot_sum h t st xs) × Within (h * value_most) r → OddOut h st xs m r
unfolding dot_sum odd_sum odd_column
dot_out h st {xs} {t} m {r} e (d, w) =
    record {
      is = d
          ∙ sum_cong h (λ k. get_or t k (pos 0) *ℤ get_or xs (st * (2 * k + 1)) (pos 0)) (λ k. pos 2 *ℤ (trans_matrix (2 * h) (2 * k + 1) m *ℤ get_or xs (st * (2 * k + 1)) (pos 0)))
          (λ k l. ap (λ (z : ℤ). z *ℤ get_or xs (st * (2 * k + 1)) (pos 0)) (ap (λ (c : List ℤ). get_or c k (pos 0)) e ∙ tabulate-get_or h (λ k. pos 2 *ℤ trans_matrix (2 * h) (2 * k + 1) m) k (pos 0) l)
          ∙ *ℤ_assoc (pos 2) (trans_matrix (2 * h) (2 * k + 1) m) (get_or xs (st * (2 * k + 1)) (pos 0)))
          ∙ sum_scale (pos 2) h (λ k. trans_matrix (2 * h) (2 * k + 1) m *ℤ get_or xs (st * (2 * k + 1)) (pos 0));
      small = w;
    }

pub odds : (h st : ℕ) {xs z : List ℤ} → length z ≡ h → Each (OddOut h st xs) 0 z → TwiceOdd h st xs z
odds h st {xs} {z} e p =
    record {
      at = λ m l. (out m l).is;
      small = record {
        at = λ i.
            elim (dec_lt i h) [
              | yes l ↦ (out i l).small
              | no d ↦ within_eq (get_or-eq_default z (pos 0) (omega arith)) (within_pos (omega arith))
            ];
      };
    }
  where
    out : (m : ℕ) → m < h → OddOut h st xs m (get_or z m (pos 0))
    out m l = subst (λ (j : ℕ). OddOut h st xs j (get_or z m (pos 0))) (zero-add m) (each_at p m (omega arith))

-- ---- the two-point line, where all starts
pub two_first : {p r : ℤ} → Within 4194304 p → Within round_most r → SFits w32 (p +ℤ r)
two_first e w = by_32 (within_le (omega arith) (within_add e w))

module _ {p q r s : ℤ} (e : Within 4194304 p) (f : Within 4194304 q) (w : Within round_most r) (k : s ≡ p +ℤ r) where
  two_both : Within (2 * value_most + round_most) (s +ℤ q)
  two_both = within_le (omega arith) (within_add (within_eq k (within_add e w)) f)

  two_less : Within (2 * value_most + round_most) (s -ℤ q)
  two_less = within_le (omega arith) (within_add (within_eq k (within_add e w)) (within_neg f))

  pub two_plus : SFits w32 (s +ℤ q)
  two_plus = by_32 (within_le (omega arith) two_both)

  pub two_minus : SFits w32 (s -ℤ q)
  two_minus = by_32 (within_le (omega arith) two_less)

module _ (st : ℕ) {xs : List ℤ} {a b r p q s y z : ℤ} where
  pub line_two : a ≡ get_or xs 0 (pos 0) → b ≡ get_or xs st (pos 0) → Within round_most r
      → (p ≡ pos 128 *ℤ a) × Within 4194304 p → (q ≡ pos 128 *ℤ b) × Within 4194304 q
      → s ≡ p +ℤ r → y ≡ s +ℤ q → z ≡ s -ℤ q → Twice 2 st xs r (y ∷ z ∷ [])
  unfolding transform_line sum trans_matrix trans_matrix32 folded_entry folded_angle folding folding_values
  line_two c d w e f h g k = record { at = at; small = record { at = small } }
    where
      first : a ≡ get_or xs (st * 0) (pos 0)
      first = c ∙ ap (λ (i : ℕ). get_or xs i (pos 0)) (let q : 0 ≡ st * 0 = omega arith in q)

      second : b ≡ get_or xs (st * 1) (pos 0)
      second = d ∙ ap (λ (i : ℕ). get_or xs i (pos 0)) (let q : st ≡ st * 1 = omega arith in q)

      begun : s ≡ pos 128 *ℤ get_or xs (st * 0) (pos 0) +ℤ r
      begun = h ∙ ap (λ (x : ℤ). x +ℤ r) (e.0 ∙ ap (λ (x : ℤ). pos 128 *ℤ x) first)

      other : q ≡ pos 128 *ℤ get_or xs (st * 1) (pos 0)
      other = f.0 ∙ ap (λ (x : ℤ). pos 128 *ℤ x) second

      plus : (u v : ℤ) → pos 128 *ℤ u +ℤ r +ℤ pos 128 *ℤ v ≡ pos 2 *ℤ (pos 0 +ℤ pos 64 *ℤ u +ℤ pos 64 *ℤ v) +ℤ r
      plus u v = rw (← split u, ← split v, ← split r) (simp ring (diff_ext _ _ _ _ (omega arith)))

      minus : (u v : ℤ) → pos 128 *ℤ u +ℤ r -ℤ pos 128 *ℤ v ≡ pos 2 *ℤ (pos 0 +ℤ pos 64 *ℤ u +ℤ negsuc 63 *ℤ v) +ℤ r
      minus u v = rw (← split u, ← split v, ← split r) (simp ring (diff_ext _ _ _ _ (omega arith)))

      at : (m : ℕ) → m < 2 → get_or (y ∷ z ∷ []) m (pos 0) ≡ pos 2 *ℤ transform_line (trans_matrix 2) 2 (λ k. get_or xs (st * k) (pos 0)) m +ℤ r
      at zero l = g ∙ ap₂ ◌+ℤ◌ begun other ∙ plus (get_or xs (st * 0) (pos 0)) (get_or xs (st * 1) (pos 0))
      at (suc zero) l = k ∙ ap₂ ◌-ℤ◌ begun other ∙ minus (get_or xs (st * 0) (pos 0)) (get_or xs (st * 1) (pos 0))
      at (suc (suc m)) l = absurd (let b : ⊥ = omega arith in b)

      small : (i : ℕ) → Within (2 * value_most + round_most) (get_or (y ∷ z ∷ []) i (pos 0))
      small zero = within_eq g (two_both e.1 f.1 w h)
      small (suc zero) = within_eq k (two_less e.1 f.1 w h)
      small (suc (suc i)) = within_pos (omega arith)
