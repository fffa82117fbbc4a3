-- Laws that bring both stages to the standard's definitions.
--   intermediate_cong, stage_two_cong   stages by matrices and data that agree
--   columns_read-past                   a column that is not read
--   intermediate-past                  the intermediate of a column that is not read
--   filled_stages                      both stages of a block
--   filled-residual                    coefficients in the range need no limit: the residual
--   filled_sized, filled_count         a size, and a column count, by another name
--   filled-dct, filled_dst             a kind of transform by its matrix
--   size_needs_wide, size_needs_seven        what one stage asks
--   columns-…, rows-…, column-…        what a size gives by its own matrix, it gives by that of the kind
--   depth_shift, stages_needs_wide        what a depth and a range make of the shift
--   stages_needs_size                     a size by another name, with another count
use mathlib.Core.Path.{◌≡◌, refl, sym, ap, ◌∙◌, subst}
use mathlib.Core.List.{List}
use Prim.Native.Nat.{ℕ, ◌+◌, ◌*◌, ◌-◌, ◌≤◌, ◌<◌}
use native.Mathlib.Decide.{dec_lt}
use native.Mathlib.Omega.{arith}
use borrow.Author.Tests.{le-ltb}
use lib.IntN.{ℤ, pos, ◌*ℤ◌}
use lib.ListN.{length, get_or}
use Rattle.integers.specs.Lists.{overwrite}
use Rattle.integers.specs.Shift.{shift_right, round_shift}
use Rattle.integers.proofs.LinearLaws.{split, ring, diff_ext}
use Rattle.integers.proofs.SumLaws.{sum-none}
use Rattle.h265.specs.Matrix.{trans_matrix, dst_matrix}
use Rattle.h265.specs.Range.{clip_coeff}
use Rattle.h265.specs.Transform.{transform_line, block_at, row_order, columns_read, stage_one_sum, stage_one_value, intermediate, stage_two_sum, stage_two_shift, stage_two, residual}
use Rattle.h265.proofs.RangeLaws.{clip_coeff_id, clip_coeff_zero}
use Rattle.h265.proofs.TransformLaws.{columns_read_in}
use Rattle.transform_1d.specs.MatrixOf.{matrix_of}
use Rattle.transform_1d.specs.Rows.{Filled}
use Rattle.transform_1d.specs.declared.Kind.{Kind}
use Rattle.transform_1d.specs.declared.Kind.TheVariants.{Dct, Dst}
use Rattle.transform_1d.proofs.RowsLaws.{row_unique, filled_cong, filled-overwrite}
use Rattle.transform_1d.proofs.MatrixLaws.{transform_line_cong}
use Rattle.stages_wide.specs.Wide.{limited_block, WideNeeds, DepthNeeds, CoeffsInRange}
use Rattle.stages_wide.specs.Parts.{stage_of, ColumnPlaced, SizeNeeds, StagesNeeds, both_stages}
use Rattle.stages_wide.proofs.StageLaws.{stage_cong}

module _ (t u : ℕ → ℕ → ℤ) (n : ℕ) where
  pub intermediate_cong : (r : ℕ) (d e : ℕ → ℕ → ℤ) (m c : ℕ) → ((k : ℕ) → k < n → t k m ≡ u k m) → ((k : ℕ) → k < n → d k c ≡ e k c)
      → intermediate t n r d m c ≡ intermediate u n r e m c
  unfolding intermediate stage_one_value stage_one_sum
  intermediate_cong r d e m c h k = ap (λ (z : ℤ). clip_coeff r (round_shift z 7)) (transform_line_cong t u n (λ i. d i c) (λ i. e i c) m h k)

  pub stage_two_cong : (s : ℕ) (f g : ℕ → ℕ → ℤ) (m j : ℕ) → ((k : ℕ) → k < n → t k j ≡ u k j) → ((c : ℕ) → c < n → f m c ≡ g m c)
      → stage_two t n s f m j ≡ stage_two u n s g m j
  unfolding stage_two stage_two_sum
  stage_two_cong s f g m j h k = ap (λ (z : ℤ). round_shift z s) (transform_line_cong t u n (λ c. f m c) (λ c. g m c) j h k)

columns_read-past : (nx : ℕ) (d : ℕ → ℕ → ℤ) (k c : ℕ) → nx ≤ c → columns_read nx d k c ≡ pos 0
unfolding columns_read
columns_read-past nx d k c h = rw (le-ltb c nx h)

-- a column of zeros stays zero before the limit
intermediate_zero : (t : ℕ → ℕ → ℤ) (n r : ℕ) (d : ℕ → ℕ → ℤ) (m c : ℕ) → ((k : ℕ) → k < n → d k c ≡ pos 0) → intermediate t n r d m c ≡ clip_coeff r (pos 0)
unfolding intermediate stage_one_value stage_one_sum transform_line round_shift shift_right
intermediate_zero t n r d m c h =
    ap (λ (z : ℤ). clip_coeff r (round_shift z 7)) (sum-none n (λ k. t k m *ℤ d k c) (λ k i. ap (λ (z : ℤ). t k m *ℤ z) (h k i) ∙ times_zero (t k m)))
  where
    times_zero : (a : ℤ) → a *ℤ pos 0 ≡ pos 0
    times_zero a = rw (← split a) (simp ring (diff_ext _ _ _ _ (omega arith)))

pub intermediate-past : (t : ℕ → ℕ → ℤ) (n r nx : ℕ) (d : ℕ → ℕ → ℤ) (m c : ℕ) → nx ≤ c → intermediate t n r (columns_read nx d) m c ≡ pos 0
intermediate-past t n r nx d m c h = intermediate_zero t n r (columns_read nx d) m c (λ k b. columns_read-past nx d k c h) ∙ clip_coeff_zero r

-- ---- both stages
module _ (t : ℕ → ℕ → ℤ) (n r nx : ℕ) (coeff : List ℤ) {g₀ g : List ℤ} (z : (i : ℕ) → get_or g₀ i (pos 0) ≡ pos 0)
    (f : Filled n n (stage_of t n (limited_block r n coeff) 7) nx g₀ g) where
  abbrev read : ℕ → ℕ → ℤ
  read = columns_read nx (limited_block r n coeff)

  limited-intermediate : (m c : ℕ) → m < n → limited_block r n g c m ≡ intermediate t n r read m c
  unfolding block_at intermediate stage_one_value stage_one_sum
  limited-intermediate m c i =
      elim (dec_lt c nx) [
        | yes y ↦ ap (clip_coeff r) (f.done c m y i ∙ stage_cong t n 7 (limited_block r n coeff) read c c m (λ k l. sym (columns_read_in nx (limited_block r n coeff) k c y)))
        | no e ↦ ap (clip_coeff r) (f.kept (c * n + m) (λ k b a h q. e (subst (λ (v : ℕ). v < nx) (sym (row_unique n c k m b i h q)) a)) ∙ z (c * n + m))
            ∙ clip_coeff_zero r ∙ sym (intermediate-past t n r nx (limited_block r n coeff) m c (omega arith))
      ]

  pub filled_stages : (s : ℕ) {out₀ out : List ℤ} → Filled n n (stage_of t n (limited_block r n g) s) n out₀ out → Filled n n (both_stages t n s r nx coeff) n out₀ out
  unfolding stage_two stage_two_sum
  filled_stages s p = filled_cong (λ m j i h. stage_cong t n s (limited_block r n g) (λ c k. intermediate t n r read k c) m m j (λ c l. limited-intermediate m c i)) p

pub filled-residual : (t : ℕ → ℕ → ℤ) (n b r nx : ℕ) (xs : List ℤ) {out₀ out : List ℤ} → 0 < n → CoeffsInRange r n nx xs → n * n ≤ length out₀
    → Filled n n (both_stages t n (r + 5 - b) r nx xs) n out₀ out → out ≡ overwrite (n * n) (row_order n (residual t n b r nx xs)) out₀
unfolding residual stage_two_shift block_at
filled-residual t n b r nx xs {out₀} {out} h a w p =
    filled-overwrite n h
    (filled_cong
    (λ m j i e. stage_two_cong t t n (r + 5 - b) _ _ m j (λ k q. refl)
    (λ c q. intermediate_cong t t n r (columns_read nx (limited_block r n xs)) (columns_read nx (block_at n xs)) m c (λ k v. refl) (λ k v. same k c v)))
    p) w
  where
    same : (k c : ℕ) → k < n → columns_read nx (limited_block r n xs) k c ≡ columns_read nx (block_at n xs) k c
    same k c v =
        elim (dec_lt c nx) [
          | yes y ↦ columns_read_in nx (limited_block r n xs) k c y ∙ clip_coeff_id r (get_or xs (k * n + c) (pos 0)) (a.at k c v y).0 (a.at k c v y).1 ∙ sym (columns_read_in nx (block_at n xs) k c y)
          | no e ↦ columns_read-past nx (limited_block r n xs) k c (omega arith) ∙ sym (columns_read-past nx (block_at n xs) k c (omega arith))
        ]

module _ {n m : ℕ} (s r nx : ℕ) (xs : List ℤ) {out₀ out : List ℤ} (e : n ≡ m) where
  pub filled_sized : Filled m m (both_stages (trans_matrix m) m s r nx xs) m out₀ out → Filled n n (both_stages (trans_matrix n) n s r nx xs) n out₀ out
  filled_sized p = subst (λ (i : ℕ). Filled i i (both_stages (trans_matrix i) i s r nx xs) i out₀ out) (sym e) p

  pub filled_dst : {kind : Kind} → kind ≡ Dst → Filled m m (both_stages dst_matrix m s r nx xs) m out₀ out → Filled n n (both_stages (matrix_of kind n) n s r nx xs) n out₀ out
  unfolding matrix_of
  filled_dst k p =
      subst (λ (κ : Kind). Filled n n (both_stages (matrix_of κ n) n s r nx xs) n out₀ out) (sym k)
      (subst (λ (i : ℕ). Filled i i (both_stages dst_matrix i s r nx xs) i out₀ out) (sym e) p)

pub filled_count : {n nx mx : ℕ} (t : ℕ → ℕ → ℤ) (s r : ℕ) (xs : List ℤ) {out₀ out : List ℤ} → nx ≡ mx
    → Filled n n (both_stages t n s r mx xs) n out₀ out → Filled n n (both_stages t n s r nx xs) n out₀ out
filled_count {n} t s r xs {out₀} {out} e p = subst (λ (i : ℕ). Filled n n (both_stages t n s r i xs) n out₀ out) (sym e) p

pub filled-dct : {kind : Kind} {n : ℕ} (s r nx : ℕ) (xs : List ℤ) {out₀ out : List ℤ} → kind ≡ Dct
    → Filled n n (both_stages (trans_matrix n) n s r nx xs) n out₀ out → Filled n n (both_stages (matrix_of kind n) n s r nx xs) n out₀ out
unfolding matrix_of
filled-dct {n = n} s r nx xs {out₀} {out} k p = subst (λ (κ : Kind). Filled n n (both_stages (matrix_of κ n) n s r nx xs) n out₀ out) (sym k) p

pub depth_shift : {b r : ℕ} → DepthNeeds b r → (4 ≤ r + 5 - b) × (r + 5 - b ≤ 12)
depth_shift a = (a.below, omega (arith, a.above))

pub stages_needs_wide : {kind : Kind} {n b r nx source_length target_length : ℕ}
    → WideNeeds kind n r source_length target_length → DepthNeeds b r → nx ≤ n → StagesNeeds n (r + 5 - b) r nx source_length target_length
stages_needs_wide w d c =
    record { least = (depth_shift d).0; most = (depth_shift d).1; range_least = w.least; range_most = w.most; parts = omega (arith, d.most); columns = c; source = w.source; room = w.room }

pub stages_needs_size : {n m s r nx mx source_length target_length : ℕ}
    → n ≡ m → StagesNeeds n s r nx source_length target_length → mx ≤ n → StagesNeeds m s r mx source_length target_length
stages_needs_size {s = s} {r} {mx = mx} {source_length} {target_length} e a c =
    subst (λ (i : ℕ). StagesNeeds i s r mx source_length target_length) e
    record { least = a.least; most = a.most; range_least = a.range_least; range_most = a.range_most; parts = a.parts; columns = c; source = a.source; room = a.room }

pub size_needs_wide : {kind : Kind} {n m b r source_length target_length : ℕ} → n ≡ m → WideNeeds kind n r source_length target_length → DepthNeeds b r → SizeNeeds m r (r + 5 - b) source_length target_length
size_needs_wide {b = b} {r} {source_length} {target_length} e w d =
    subst (λ (i : ℕ). SizeNeeds i r (r + 5 - b) source_length target_length) e
    record { range_least = w.least; range_most = w.most; parts = omega (arith, d.most); least = (depth_shift d).0; most = (depth_shift d).1; source = w.source; room = w.room }

pub size_needs_seven : {kind : Kind} {n m r source_length target_length : ℕ} → n ≡ m → WideNeeds kind n r source_length target_length → SizeNeeds m r 7 source_length target_length
size_needs_seven {r = r} {source_length} {target_length} e w =
    subst (λ (i : ℕ). SizeNeeds i r 7 source_length target_length) e
    record { range_least = w.least; range_most = w.most; parts = omega (arith, w.most); least = omega arith; most = omega arith; source = w.source; room = w.room }

-- ---- a size and a kind by their names: a kind above size 4 is the DCT
kind_matrix : (kind : Kind) (n m : ℕ) → n ≡ m → (kind ≡ Dst → n ≡ 4) → (m ≡ 4 → ⊥) → (P : (ℕ → ℕ → ℤ) → ℕ → Type 0) → P (trans_matrix m) m → P (matrix_of kind n) n
unfolding matrix_of
kind_matrix Dct n m e d f P p = subst (λ (i : ℕ). P (trans_matrix i) i) (sym e) p
kind_matrix Dst n m e d f P p = absurd (f (sym e ∙ d refl))

kind_four : (kind : Kind) (n : ℕ) → n ≡ 4 → (P : (ℕ → ℕ → ℤ) → ℕ → Type 0) → P (matrix_of kind 4) 4 → P (matrix_of kind n) n
kind_four kind n e P p = subst (λ (i : ℕ). P (matrix_of kind i) i) (sym e) p

abbrev Columns : ℕ → List ℤ → List ℤ → List ℤ → (ℕ → ℕ → ℤ) → ℕ → Type 0
Columns r xs ys zs t i = Filled i i (intermediate t i r (limited_block r i xs)) i ys zs

abbrev Rows : ℕ → ℕ → List ℤ → List ℤ → List ℤ → (ℕ → ℕ → ℤ) → ℕ → Type 0
Rows s r xs ys zs t i = Filled i i (stage_two t i s (limited_block r i xs)) i ys zs

abbrev Column : ℕ → ℕ → List ℤ → List ℤ → List ℤ → (ℕ → ℕ → ℤ) → ℕ → Type 0
Column c r xs ys zs t i = ColumnPlaced i c (λ m. intermediate t i r (limited_block r i xs) m c) i ys zs

module _ (kind : Kind) (n r : ℕ) (xs : List ℤ) {ys zs : List ℤ} where
  pub columns_four : n ≡ 4 → Columns r xs ys zs (matrix_of kind 4) 4 → Columns r xs ys zs (matrix_of kind n) n
  columns_four e p = kind_four kind n e (Columns r xs ys zs) p

  pub rows_four : (s : ℕ) → n ≡ 4 → Rows s r xs ys zs (matrix_of kind 4) 4 → Rows s r xs ys zs (matrix_of kind n) n
  rows_four s e p = kind_four kind n e (Rows s r xs ys zs) p

  pub column_four : (c : ℕ) → n ≡ 4 → Column c r xs ys zs (matrix_of kind 4) 4 → Column c r xs ys zs (matrix_of kind n) n
  column_four c e p = kind_four kind n e (Column c r xs ys zs) p

  module _ (m : ℕ) (e : n ≡ m) (d : kind ≡ Dst → n ≡ 4) (f : m ≡ 4 → ⊥) where
    pub columns_dct : Columns r xs ys zs (trans_matrix m) m → Columns r xs ys zs (matrix_of kind n) n
    columns_dct p = kind_matrix kind n m e d f (Columns r xs ys zs) p

    pub rows-dct : (s : ℕ) → Rows s r xs ys zs (trans_matrix m) m → Rows s r xs ys zs (matrix_of kind n) n
    rows-dct s p = kind_matrix kind n m e d f (Rows s r xs ys zs) p

    pub column-dct : (c : ℕ) → Column c r xs ys zs (trans_matrix m) m → Column c r xs ys zs (matrix_of kind n) n
    column-dct c p = kind_matrix kind n m e d f (Column c r xs ys zs) p
