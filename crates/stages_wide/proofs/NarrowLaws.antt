-- Laws of values that fit 16 bits.
--   narrow_column_zero, -suc, -all   no value of a column; one more; all
--   narrow_stage                    a stage over values that fit 16 bits, which are their own limits
--   turned_narrow, taken_narrow     such values of a block turned over, and of one column of it
use mathlib.Core.Path.{◌≡◌, sym, ap, ◌∙◌, subst}
use mathlib.Core.List.{List}
use Prim.Native.Nat.{ℕ, ◌+◌, ◌*◌, ◌-◌, ◌≤◌, ◌<◌}
use native.Mathlib.Nat.{not-suc-le-zero}
use native.Mathlib.Decide.{ℕ_discrete}
use native.Mathlib.Omega.{arith}
use lib.Arith.{digits_lt}
use lib.IntN.{ℤ, pos, ◌+ℤ◌}
use lib.ListN.{get_or}
use mir.Syntax.{w16}
use mir.Val.{SFits}
use Rattle.integers.specs.Shift.{pow2, shift_right, round_shift}
use Rattle.h265.specs.Matrix.{trans_matrix}
use Rattle.h265.specs.Range.{clip_coeff}
use Rattle.h265.specs.Transform.{transform_line, block_at}
use Rattle.h265.proofs.TransformLaws.{transform_line_cong}
use Rattle.transform_1d.specs.Rows.{Filled}
use Rattle.transform_1d.proofs.RowsLaws.{filled_cong}
use Rattle.tiles.specs.Tile.{line_by, line_value}
use Rattle.integers.specs.Within.{Narrow}
use Rattle.wide_parts.proofs.NarrowLaws.{clip_coeff_narrow}
use Rattle.stages_wide.specs.Wide.{limited_block}
use Rattle.stages_wide.specs.Parts.{stage_of, ColumnPlaced, NarrowColumn}

pub narrow_column_zero : {n c : ℕ} {xs : List ℤ} → NarrowColumn n c 0 xs
narrow_column_zero = record { at = λ k h. absurd (not-suc-le-zero h) }

pub narrow_column_suc : {n c m : ℕ} {xs : List ℤ} → NarrowColumn n c m xs → SFits w16 (get_or xs (m * n + c) (pos 0)) → NarrowColumn n c (m + 1) xs
narrow_column_suc {n} {c} {m} {xs} p f =
    record {
      at = λ k h.
          elim (ℕ_discrete k m) [
            | yes y ↦ subst (λ (i : ℕ). SFits w16 (get_or xs (i * n + c) (pos 0))) (sym y) f
            | no d ↦ p.at k (omega arith)
          ];
    }

pub narrow_column_all : {n c : ℕ} (m : ℕ) {k : ℕ} {xs : List ℤ} → k ≡ m → NarrowColumn n c k xs → NarrowColumn n c m xs
narrow_column_all {n} {c} m {xs = xs} e p = subst (λ (k : ℕ). NarrowColumn n c k xs) e p

pub narrow_stage : (n r s : ℕ) (l : List ℤ) {count : ℕ} {h : ℤ} {out out₂ : List ℤ} → 15 ≤ r → h ≡ pow2 (s - 1)
    → ((k c : ℕ) → k < n → c < count → SFits w16 (get_or l (k * n + c) (pos 0)))
    → Filled n n (line_value n h s l) count out out₂ → Filled n n (stage_of (trans_matrix n) n (limited_block r n l) s) count out out₂
unfolding line_by round_shift block_at
narrow_stage n r s l {h = h} least e f p =
    filled_cong
    (λ c m a b. ap (λ (v : ℤ). shift_right (v +ℤ h) s)
    (transform_line_cong (trans_matrix n) n (λ k. get_or l (k * n + c) (pos 0)) (λ k. clip_coeff r (get_or l (k * n + c) (pos 0))) m (λ k i. sym (clip_coeff_narrow least (f k c i a))))
    ∙ ap (λ (v : ℤ). shift_right (transform_line (trans_matrix n) n (λ k. clip_coeff r (get_or l (k * n + c) (pos 0))) m +ℤ v) s) e)
    p

pub turned_narrow : (n : ℕ) (inter : List ℤ) {g₀ g : List ℤ} → Narrow (n * n) inter → Filled n n (λ c k. get_or inter (k * n + c) (pos 0)) n g₀ g
    → (k c : ℕ) → k < n → c < n → SFits w16 (get_or g (k * n + c) (pos 0))
turned_narrow n inter w f k c a b = subst (λ (v : ℤ). SFits w16 v) (sym (f.done k c a b)) (w.at (c * n + k) (digits_lt {q = c} {m = n} {r = k} {c = n} b a))

pub taken_narrow : (n : ℕ) (coeff : List ℤ) {column : ℕ} {g₀ g : List ℤ} → NarrowColumn n column n coeff → ColumnPlaced n 0 (λ k. get_or coeff (k * n + column) (pos 0)) n g₀ g
    → (k c : ℕ) → k < n → c < 1 → SFits w16 (get_or g (k * n + c) (pos 0))
taken_narrow n coeff {g = g} w p k c a b =
    subst (λ (i : ℕ). SFits w16 (get_or g (k * n + i) (pos 0))) (let e : 0 ≡ c = omega arith in e) (subst (λ (v : ℤ). SFits w16 v) (sym (p.done k a)) (w.at k a))
