-- Laws of a stage in two parts.
--   shift_parts        a shift by s is one by k and one by the rest
--   line_parts         a line over limited values, from the lines over both parts
--   limited_in, -past  what a list of limited values reads as
--   whole_stage        lines over a list that has the rows of the stage and no more
--   narrow_list        values that fit 16 bits are not limited, as a stage reads them or in any range
--   parts_list         two parts make the limited values
--   parts_give         so that a stage over both parts is a pass
--   narrow_gives       and so is a stage over values that fit 16 bits
use mathlib.Core.Path.{◌≡◌, sym, ap, ap₂, ◌∙◌}
use mathlib.Core.List.{List}
use Prim.Native.Nat.{ℕ, ◌+◌, ◌*◌, ◌-◌, ◌^◌, ◌≤◌, ◌<◌}
use native.Mathlib.Nat.{div-div-eq-div-mul}
use native.Mathlib.Decide.{dec_lt}
use native.Mathlib.Omega.{arith}
use lib.IntN.{ℤ, pos, negsuc, ◌+ℤ◌, ◌*ℤ◌}
use lib.ListN.{length, get_or, get_or-eq_default}
use lib.Pow.{pow_pos, pow-add}
use lib.Signed.{shr_z}
use Rattle.std.specs.Prelude.{map}
use Rattle.std.proofs.lemmas.List.{get_or-map}
use Rattle.integers.specs.Lists.{tabulate}
use Rattle.integers.specs.Shift.{pow2, shift_right}
use Rattle.integers.specs.Sum.{sum}
use Rattle.integers.specs.Within.{Narrow}
use Rattle.integers.proofs.LinearLaws.{split, ring, diff_ext}
use Rattle.integers.proofs.OrderLaws.{shr_shift}
use Rattle.integers.proofs.ShiftLaws.{shift_right_zero}
use Rattle.integers.proofs.SumLaws.{sum_cong, sum_add, sum_scale}
use Rattle.integers.proofs.ListsLaws.{tabulate_cong, tabulate-length, tabulate-get_or}
use Rattle.h265.specs.Matrix.{trans_matrix}
use Rattle.h265.specs.Range.{clip_coeff}
use Rattle.h265.specs.Transform.{transform_line, block_at}
use Rattle.transform_1d.specs.Rows.{Filled}
use Rattle.transform_1d.proofs.RowsLaws.{filled_cong}
use Rattle.tiles.specs.Tile.{line_by, line_value, first_rows, StageGives}
use Rattle.tiles.specs.Parts.{high_of, low_of, SplitGives}
use Rattle.tiles.proofs.TileLaws.{rows_in, rows_past, rows_whole, filled_same}
use Rattle.tiles.proofs.PartsLaws.{parts_exact}
use Rattle.tiles_wide.specs.Pass.{limited_list, PassGives}
use Rattle.wide_parts.proofs.NarrowLaws.{clip_coeff_narrow}

-- ---- shifts
shr_shr : (x : ℤ) (a b : ℕ) → shr_z x (a * b) ≡ shr_z (shr_z x a) b
shr_shr (pos n) a b = ap pos (sym (div-div-eq-div-mul n a b))
shr_shr (negsuc n) a b = ap negsuc (sym (div-div-eq-div-mul n a b))

pub shift_parts : (x : ℤ) (k s : ℕ) → k ≤ s → shift_right x s ≡ shift_right (shift_right x k) (s - k)
unfolding shift_right
shift_parts x k s h =
    ap (λ (m : ℕ). shr_z x m) (ap (λ (i : ℕ). 2 ^ i) (let e : s ≡ k + (s - k) = omega arith in e) ∙ pow-add 2 k (s - k))
    ∙ shr_shr x (2 ^ k) (2 ^ (s - k))

-- (2^k × h + l) shifted by k
shift_join : (h l : ℤ) (k s : ℕ) → k ≤ s → shift_right (pow2 k *ℤ h +ℤ l) s ≡ shift_right (shift_right l k +ℤ h) (s - k)
unfolding shift_right
shift_join h l k s e =
    shift_parts (pow2 k *ℤ h +ℤ l) k s e
    ∙ ap (λ (z : ℤ). shr_z z (2 ^ (s - k))) (ap (λ (z : ℤ). shr_z z (2 ^ k)) (order (pow2 k *ℤ h) l) ∙ shr_shift l h (2 ^ k) (pow_pos k))
  where
    order : (x y : ℤ) → x +ℤ y ≡ y +ℤ x
    order x y = rw (← split x, ← split y) (simp ring (diff_ext _ _ _ _ (omega arith)))

-- ---- lines
module _ (t : ℕ → ℕ → ℤ) (n : ℕ) (c : ℤ) (y h l : ℕ → ℤ) (m : ℕ) (e : (k : ℕ) → k < n → y k ≡ c *ℤ h k +ℤ l k) where
  line_sum_lem : transform_line t n y m ≡ c *ℤ transform_line t n h m +ℤ transform_line t n l m
  unfolding transform_line
  line_sum_lem =
      sum_cong n (λ k. t k m *ℤ y k) (λ k. c *ℤ (t k m *ℤ h k) +ℤ t k m *ℤ l k) (λ k i. ap (λ (z : ℤ). t k m *ℤ z) (e k i) ∙ regroup (t k m) (h k) (l k))
      ∙ sum_add n (λ k. c *ℤ (t k m *ℤ h k)) (λ k. t k m *ℤ l k)
      ∙ ap (λ (z : ℤ). z +ℤ sum n (λ k. t k m *ℤ l k)) (sum_scale c n (λ k. t k m *ℤ h k))
    where
      regroup : (a x z : ℤ) → a *ℤ (c *ℤ x +ℤ z) ≡ c *ℤ (a *ℤ x) +ℤ a *ℤ z
      regroup a x z = rw (← split a, ← split c, ← split x, ← split z) (simp ring (diff_ext _ _ _ _ (omega arith)))

module _ (n k s : ℕ) (b : ℤ) (ys h l : List ℤ) (e : (i : ℕ) → get_or ys i (pos 0) ≡ pow2 k *ℤ get_or h i (pos 0) +ℤ get_or l i (pos 0)) where
  pub line_parts : (c m : ℕ) → k ≤ s → line_value n b s ys c m ≡ shift_right (line_value n b k l c m +ℤ line_value n (pos 0) 0 h c m) (s - k)
  unfolding line_by block_at
  line_parts c m i =
      let H = transform_line (trans_matrix n) n (λ k. get_or h (k * n + c) (pos 0)) m in
      let L = transform_line (trans_matrix n) n (λ k. get_or l (k * n + c) (pos 0)) m in
      ap (λ (z : ℤ). shift_right (z +ℤ b) s)
      (line_sum_lem (trans_matrix n) n (pow2 k) (λ k. get_or ys (k * n + c) (pos 0)) (λ k. get_or h (k * n + c) (pos 0)) (λ k. get_or l (k * n + c) (pos 0)) m (λ k a. e (k * n + c)))
      ∙ ap (λ (z : ℤ). shift_right z s) (group (pow2 k *ℤ H) L b)
      ∙ shift_join H (L +ℤ b) k s i
      ∙ ap (λ (z : ℤ). shift_right (shift_right (L +ℤ b) k +ℤ z) (s - k)) (zero H ∙ sym (shift_right_zero (H +ℤ pos 0)))
    where
      group : (x y z : ℤ) → x +ℤ y +ℤ z ≡ x +ℤ (y +ℤ z)
      group x y z = rw (← split x, ← split y, ← split z) (simp ring (diff_ext _ _ _ _ (omega arith)))

      zero : (x : ℤ) → x ≡ x +ℤ pos 0
      zero x = rw (← split x) (simp ring (diff_ext _ _ _ _ (omega arith)))

-- ---- lists
pub limited_in : (r w : ℕ) (xs : List ℤ) (i : ℕ) → i < w → get_or (limited_list r w xs) i (pos 0) ≡ clip_coeff r (get_or xs i (pos 0))
unfolding limited_list
limited_in r w xs i h = tabulate-get_or w (λ i. clip_coeff r (get_or xs i (pos 0))) i (pos 0) h

pub limited-past : (r w : ℕ) (xs : List ℤ) (i : ℕ) → w ≤ i → get_or (limited_list r w xs) i (pos 0) ≡ pos 0
unfolding limited_list
limited-past r w xs i h =
    get_or-eq_default (tabulate w (λ i. clip_coeff r (get_or xs i (pos 0)))) (pos 0) (omega (arith, tabulate-length w (λ i. clip_coeff r (get_or xs i (pos 0)))))

pub whole_stage : (q n : ℕ) (l : List ℤ) {count : ℕ} (h : ℤ) (s : ℕ) {out out₂ : List ℤ} → length l ≡ q * n
    → StageGives n (first_rows q n (map (λ x. x) l)) count h s (λ x. x) (map (λ x. x) out) (map (λ x. x) out₂) → Filled n n (line_value n h s l) count out out₂
whole_stage q n l h s e p = rw (rows_whole q n l e) at (filled_same p)

pub narrow_list : (q n : ℕ) {r : ℕ} (xs : List ℤ) → 15 ≤ r → q * n ≤ length xs → Narrow (q * n) xs → first_rows q n (map (clip_coeff 15) xs) ≡ limited_list r (q * n) xs
unfolding first_rows limited_list
narrow_list q n {r} xs h l b =
    tabulate_cong (q * n) (λ i. get_or (map (clip_coeff 15) xs) i (pos 0)) (λ i. clip_coeff r (get_or xs i (pos 0)))
    (λ i k. get_or-map (clip_coeff 15) xs i (pos 0) (pos 0) (omega (arith, l, k)) ∙ clip_coeff_narrow (omega arith) (b.at i k) ∙ sym (clip_coeff_narrow h (b.at i k)))

-- ---- two parts
parts_list : (q n k : ℕ) (xs : List ℤ) → q * n ≤ length xs → (i : ℕ)
    → get_or (limited_list (15 + k) (q * n) xs) i (pos 0) ≡ pow2 k *ℤ get_or (first_rows q n (map (high_of k) xs)) i (pos 0) +ℤ get_or (first_rows q n (map (low_of k) xs)) i (pos 0)
parts_list q n k xs h i =
    elim (dec_lt i (q * n)) [
      | yes y ↦ limited_in (15 + k) (q * n) xs i y ∙ sym (parts_exact k (get_or xs i (pos 0))) ∙ sym (ap₂ (λ (a b : ℤ). pow2 k *ℤ a +ℤ b) (part (high_of k) y) (part (low_of k) y))
      | no d ↦ limited-past (15 + k) (q * n) xs i (omega arith)
          ∙ sym (ap₂ (λ (a b : ℤ). pow2 k *ℤ a +ℤ b) (rows_past q n (map (high_of k) xs) i (omega arith)) (rows_past q n (map (low_of k) xs) i (omega arith)) ∙ none (pow2 k))
    ]
  where
    part : (f : ℤ → ℤ) → i < q * n → get_or (first_rows q n (map f xs)) i (pos 0) ≡ f (get_or xs i (pos 0))
    part f y = rows_in q n (map f xs) i y ∙ get_or-map f xs i (pos 0) (pos 0) (omega (arith, h, y))

    none : (x : ℤ) → x *ℤ pos 0 +ℤ pos 0 ≡ pos 0
    none x = rw (← split x) (simp ring (diff_ext _ _ _ _ (omega arith)))

-- ---- what the pass's proof cites
pub parts_give : {q n r count s : ℕ} (xs : List ℤ) {b : ℤ} {out out₂ : List ℤ} → 15 ≤ r → r ≤ s + 15 → q * n ≤ length xs → b ≡ pow2 (s - 1)
    → SplitGives q n (r - 15) xs count b (s + 15 - r) out out₂ → PassGives q n r count s xs out out₂
parts_give {q} {n} {r} {count} {s} xs {b} least most h e p = record { rows = filled_cong row p }
  where
    k : ℕ
    k = r - 15

    row : (c m : ℕ) → c < count → m < n
        → shift_right (line_value n b k (first_rows q n (map (low_of k) xs)) c m +ℤ line_value n (pos 0) 0 (first_rows q n (map (high_of k) xs)) c m) (s + 15 - r)
        ≡ line_value n (pow2 (s - 1)) s (limited_list r (q * n) xs) c m
    row c m x y =
        ap₂ (λ (v : ℤ) (i : ℕ). shift_right (line_value n v k (first_rows q n (map (low_of k) xs)) c m +ℤ line_value n (pos 0) 0 (first_rows q n (map (high_of k) xs)) c m) i) e
        (let f : s + 15 - r ≡ s - k = omega arith in f)
        ∙ sym (line_parts n k s (pow2 (s - 1)) (limited_list (15 + k) (q * n) xs) (first_rows q n (map (high_of k) xs)) (first_rows q n (map (low_of k) xs)) (parts_list q n k xs h) c m (omega arith))
        ∙ ap (λ (i : ℕ). line_value n (pow2 (s - 1)) s (limited_list i (q * n) xs) c m) (let f : 15 + k ≡ r = omega arith in f)

pub narrow_gives : {q n r count s : ℕ} (xs : List ℤ) {b : ℤ} {out out₂ : List ℤ} → 15 ≤ r → q * n ≤ length xs → Narrow (q * n) xs → b ≡ pow2 (s - 1)
    → Filled n n (line_value n b s (first_rows q n (map (clip_coeff 15) xs))) count out out₂ → PassGives q n r count s xs out out₂
narrow_gives {q} {n} xs h l b e p = record { rows = rw (e, narrow_list q n xs h l b) at p }
