-- Laws of lines on values of up to 23 bits.
--   most                       the size that no output exceeds
--   read                       what the machine reads back of 32 bits
--   small_fits, value_fits, entry_fits   outputs, values and entries fit 32 bits
--   reads_fit, reads_op        two numbers that are read and then added or subtracted
--   sum_fits .. less_read      the same of two pairs of products, by their bounds
--   below_4                    a fact of 0, 1, 2, 3 is one of each number below 4
--   Output, outputs, outputs_4 one output, and those of a line
--   quad_output                an output that is four products
--   sum_output, less_output    an output that is the sum or the difference of two pairs of products
--   picked, picked_at          four values that are read from an array
--   outputs_dct, outputs_dst   the 4-point line of a kind of transform
use mathlib.Core.Path.{◌≡◌, refl, sym, ap₂, subst, ◌∙◌}
use mathlib.Core.List.{List, [], ◌∷◌}
use Prim.Native.Nat.{ℕ, zero, suc, ◌+◌, ◌*◌, ◌^◌, ◌<◌}
use native.Mathlib.Omega.{arith}
use lib.Dec.{T, leb, leb→le}
use lib.IntN.{ℤ, pos, neg_ℤ, ◌+ℤ◌, ◌-ℤ◌, ◌*ℤ◌}
use lib.ListN.{get_or, length}
use mir.Syntax.{w32}
use mir.Val.{SFits, to_z, of_z}
use Rattle.integers.specs.Sum.{sum}
use Rattle.integers.specs.Within.{Within}
use Rattle.integers.proofs.LinearLaws.{split, ring, diff_ext}
use Rattle.integers.proofs.MachineLaws.{round_trip}
use Rattle.integers.proofs.BoundLaws.{within_add, within_neg, within_le, within_eq, within_fits}
use Rattle.h265.specs.Matrix.{trans_matrix, dst_matrix}
use Rattle.h265.specs.Transform.{transform_line}
use Rattle.transform_1d.specs.MatrixOf.{matrix_of}
use Rattle.transform_1d.specs.declared.Kind.{Kind}
use Rattle.transform_1d.specs.declared.Kind.TheVariants.{Dct, Dst}
use Rattle.lines_wide.specs.Values.{WideValues, WideOutputs}

abbrev pub most : ℕ
most = 479 * 2 ^ 22

abbrev pub read : ℤ → ℤ
read z = to_z w32 (of_z w32 z)

pub small_fits : {z : ℤ} → Within most z → SFits w32 z
small_fits f = within_fits {b = most} tt f

pub value_fits : {z : ℤ} → Within (2 ^ 22) z → SFits w32 z
value_fits f = within_fits {b = 2 ^ 22} tt f

pub entry_fits : {z : ℤ} → Within 90 z → SFits w32 z
entry_fits f = within_fits {b = 90} tt f

module _ (op : ℤ → ℤ → ℤ) {p r : ℤ} (f : SFits w32 p) (g : SFits w32 r) (h : Within most (op p r)) where
  pub reads_fit : SFits w32 (op (read p) (read r))
  reads_fit = rw (round_trip f, round_trip g) (small_fits h)

  pub reads_op : read (op (read p) (read r)) ≡ op p r
  reads_op = round_trip reads_fit ∙ rw (round_trip f, round_trip g)

-- of two bounds, as those of two pairs of products
module _ {m n : ℕ} {p r : ℤ} (f : Within m p) (g : Within n r) (l : T (leb (m + n) most)) where
  sum_small : Within most (p +ℤ r)
  sum_small = within_le (leb→le (m + n) most l) (within_add f g)

  less_small : Within most (p -ℤ r)
  less_small = within_le (leb→le (m + n) most l) (within_add f (within_neg g))

  first_fits : SFits w32 p
  first_fits = small_fits (within_le (omega (arith, leb→le (m + n) most l)) f)

  second_fits : SFits w32 r
  second_fits = small_fits (within_le (omega (arith, leb→le (m + n) most l)) g)

  pub sum_fits : SFits w32 (read p +ℤ read r)
  sum_fits = reads_fit ◌+ℤ◌ first_fits second_fits sum_small

  pub less_fits : SFits w32 (read p -ℤ read r)
  less_fits = reads_fit ◌-ℤ◌ first_fits second_fits less_small

  pub sum_read : read (read p +ℤ read r) ≡ p +ℤ r
  sum_read = reads_op ◌+ℤ◌ first_fits second_fits sum_small

  pub less_read : read (read p -ℤ read r) ≡ p -ℤ r
  less_read = reads_op ◌-ℤ◌ first_fits second_fits less_small

-- ---- outputs
pub record Output (t : ℕ → ℕ → ℤ) (n : ℕ) (x : List ℤ) (j : ℕ) (z : ℤ) : Type 0 where
  pub is : z ≡ transform_line t n (λ k. get_or x k (pos 0)) j
  pub small : Within most z

pub below_4 : (P : ℕ → Type 0) → P 0 → P 1 → P 2 → P 3 → (j : ℕ) → j < 4 → P j
below_4 P a b c d zero h = a
below_4 P a b c d (suc zero) h = b
below_4 P a b c d (suc (suc zero)) h = c
below_4 P a b c d (suc (suc (suc zero))) h = d
below_4 P a b c d (suc (suc (suc (suc j)))) h = absurd (let e : ⊥ = omega arith in e)

pub outputs : {t : ℕ → ℕ → ℤ} {n : ℕ} {x r : List ℤ} → length r ≡ n → ((j : ℕ) → j < n → Output t n x j (get_or r j (pos 0))) → WideOutputs t n x r
outputs e h = record { long = e; output = λ j l. (h j l).is; bound = λ j l. (h j l).small }

pub outputs_4 : {t : ℕ → ℕ → ℤ} {x : List ℤ} {a b c d : ℤ}
    → Output t 4 x 0 a → Output t 4 x 1 b → Output t 4 x 2 c → Output t 4 x 3 d → WideOutputs t 4 x (a ∷ b ∷ c ∷ d ∷ [])
outputs_4 {t} {x} {a} {b} {c} {d} p q r s =
    outputs refl (below_4 (λ j. Output t 4 x j (get_or (a ∷ b ∷ c ∷ d ∷ []) j (pos 0))) p q r s)

line_four : (t : ℕ → ℕ → ℤ) (x : List ℤ) (j : ℕ)
    → transform_line t 4 (λ k. get_or x k (pos 0)) j
    ≡ (t 0 j *ℤ get_or x 0 (pos 0) +ℤ t 1 j *ℤ get_or x 1 (pos 0)) +ℤ (t 2 j *ℤ get_or x 2 (pos 0) +ℤ t 3 j *ℤ get_or x 3 (pos 0))
unfolding transform_line sum
line_four t x j = regroup (t 0 j *ℤ get_or x 0 (pos 0)) (t 1 j *ℤ get_or x 1 (pos 0)) (t 2 j *ℤ get_or x 2 (pos 0)) (t 3 j *ℤ get_or x 3 (pos 0))
  where
    regroup : (p q r s : ℤ) → pos 0 +ℤ p +ℤ q +ℤ r +ℤ s ≡ (p +ℤ q) +ℤ (r +ℤ s)
    regroup p q r s = rw (← split p, ← split q, ← split r, ← split s) (simp ring (diff_ext _ _ _ _ (omega arith)))

module _ (t : ℕ → ℕ → ℤ) (j : ℕ) {x : List ℤ} (v : WideValues 4 x) where
  abbrev a : ℤ
  a = get_or x 0 (pos 0)

  abbrev b : ℤ
  b = get_or x 1 (pos 0)

  abbrev d : ℤ
  d = get_or x 2 (pos 0)

  abbrev f : ℤ
  f = get_or x 3 (pos 0)

  at_0 : read a ≡ a
  at_0 = round_trip (value_fits (v.at 0 (omega arith)))

  at_1 : read b ≡ b
  at_1 = round_trip (value_fits (v.at 1 (omega arith)))

  at_2 : read d ≡ d
  at_2 = round_trip (value_fits (v.at 2 (omega arith)))

  at_3 : read f ≡ f
  at_3 = round_trip (value_fits (v.at 3 (omega arith)))

  pub quad_output : (m : ℕ) {r : ℤ} → r ≡ (t 0 j *ℤ a +ℤ t 1 j *ℤ b) +ℤ (t 2 j *ℤ d +ℤ t 3 j *ℤ f)
      → Within m r → T (leb m most) → Output t 4 x j (read r)
  quad_output m {r} e w l =
      let g : Within most r = within_le (leb→le m most l) w in
      let i : read r ≡ r = round_trip (small_fits g) in
      record { is = i ∙ e ∙ sym (line_four t x j); small = within_eq i g }

  pub sum_output : {m n : ℕ} {p r : ℤ} → p ≡ t 0 j *ℤ read a +ℤ t 2 j *ℤ read d → r ≡ t 1 j *ℤ read b +ℤ t 3 j *ℤ read f
      → Within m p → Within n r → T (leb (m + n) most) → Output t 4 x j (read (read p +ℤ read r))
  sum_output e g h i l =
      let q = sum_read h i l in
      record {
        is =
            q ∙ ap₂ ◌+ℤ◌ e g
            ∙ rw (at_0, at_1, at_2, at_3) (regroup (t 0 j *ℤ a) (t 1 j *ℤ b) (t 2 j *ℤ d) (t 3 j *ℤ f) ∙ sym (line_four t x j));
        small = within_eq q (sum_small h i l);
      }
    where
      regroup : (p q r s : ℤ) → (p +ℤ r) +ℤ (q +ℤ s) ≡ (p +ℤ q) +ℤ (r +ℤ s)
      regroup p q r s = rw (← split p, ← split q, ← split r, ← split s) (simp ring (diff_ext _ _ _ _ (omega arith)))

  pub less_output : {m n : ℕ} {p r : ℤ} → p ≡ t 0 j *ℤ read a +ℤ t 2 j *ℤ read d → r ≡ neg_ℤ (t 1 j) *ℤ read b +ℤ neg_ℤ (t 3 j) *ℤ read f
      → Within m p → Within n r → T (leb (m + n) most) → Output t 4 x j (read (read p -ℤ read r))
  less_output e g h i l =
      let q = less_read h i l in
      record {
        is =
            q ∙ ap₂ ◌-ℤ◌ e g
            ∙ rw (at_0, at_1, at_2, at_3) (regroup (t 0 j *ℤ a) (t 1 j) (t 2 j *ℤ d) (t 3 j) ∙ sym (line_four t x j));
        small = within_eq q (less_small h i l);
      }
    where
      regroup : (p u r v : ℤ) → (p +ℤ r) -ℤ (neg_ℤ u *ℤ b +ℤ neg_ℤ v *ℤ f) ≡ (p +ℤ u *ℤ b) +ℤ (r +ℤ v *ℤ f)
      regroup p u r v =
          rw (← split p, ← split u, ← split r, ← split v, ← split b, ← split f) (simp ring (diff_ext _ _ _ _ (omega arith)))

-- ---- values that are picked from a list
abbrev pub picked : (ℕ → ℕ) → List ℤ → List ℤ
picked i x = read (get_or x (i 0) (pos 0)) ∷ read (get_or x (i 1) (pos 0)) ∷ read (get_or x (i 2) (pos 0)) ∷ read (get_or x (i 3) (pos 0)) ∷ []

module _ (i : ℕ → ℕ) {n : ℕ} {x : List ℤ} (v : WideValues n x) (h : (k : ℕ) → k < 4 → i k < n) where
  pub picked_at : (k : ℕ) → k < 4 → get_or (picked i x) k (pos 0) ≡ get_or x (i k) (pos 0)
  picked_at =
      below_4 (λ k. get_or (picked i x) k (pos 0) ≡ get_or x (i k) (pos 0))
      (at 0 (omega arith)) (at 1 (omega arith)) (at 2 (omega arith)) (at 3 (omega arith))
    where
      at : (k : ℕ) → k < 4 → read (get_or x (i k) (pos 0)) ≡ get_or x (i k) (pos 0)
      at k l = round_trip (value_fits (v.at (i k) (h k l)))

-- ---- the four-point line by its kind
module _ {x r : List ℤ} where
  pub outputs_dct : {kind : Kind} → kind ≡ Dct → WideOutputs (trans_matrix 4) 4 x r → WideOutputs (matrix_of kind 4) 4 x r
  unfolding matrix_of
  outputs_dct e w = subst (λ (κ : Kind). WideOutputs (matrix_of κ 4) 4 x r) (sym e) w

  pub outputs_dst : {kind : Kind} → kind ≡ Dst → WideOutputs dst_matrix 4 x r → WideOutputs (matrix_of kind 4) 4 x r
  unfolding matrix_of
  outputs_dst e w = subst (λ (κ : Kind). WideOutputs (matrix_of κ 4) 4 x r) (sym e) w
