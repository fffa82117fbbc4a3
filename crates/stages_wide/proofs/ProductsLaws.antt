-- Laws of lines in 32-bit products.
--   placed_run                             what a run from place 0 on has placed
--   limited_up_to_in, -past, -small          a value that is read, one that is not, and the size of both
--   limited_values                         what limiting the first values into zeros leaves
--   limited_needs_products, filled-limited    lines over limited values meet what they ask, and give what is said of the values
--   wide_values_picked, round_needs_outputs    a line meets what it asks, and its outputs what rounding asks
--   filled_products, picked_four           one line more; the values of a column of four
--   limited_needs_four                        what a stage of 4 points asks
--   four_rows                              what a stage of 4 points gives
--   column_values, put_line                the values of one column meet what a line asks; its outputs, limited and put, are the intermediate's column
use mathlib.Core.Path.{◌≡◌, refl, sym, ap, ◌∙◌}
use mathlib.Core.List.{List, [], ◌∷◌}
use Prim.Native.Nat.{ℕ, zero, suc, ◌+◌, ◌*◌, ◌^◌, ◌≤◌, ◌<◌}
use native.Mathlib.Nat.{not-suc-le-zero, zero-add}
use native.Mathlib.Decide.{dec_lt}
use native.Mathlib.Omega.{arith}
use borrow.Author.Tests.{lt-ltb, le-ltb}
use lib.IntN.{ℤ, pos}
use lib.ListN.{length, get_or, replicate}
use Rattle.integers.specs.Shift.{round_shift}
use Rattle.integers.specs.Within.{Within}
use Rattle.integers.proofs.BoundLaws.{within_eq, within_le, within_pos}
use Rattle.h265.specs.Range.{clip_coeff}
use Rattle.h265.specs.Transform.{block_at, stage_one_sum, stage_one_value, intermediate}
use Rattle.stages_wide.specs.Wide.{limited_block}
use Rattle.lines_wide.specs.Values.{WideValues, WideOutputs}
use Rattle.transform_1d.specs.Rows.{Placed, Filled}
use Rattle.transform_1d.proofs.RowsLaws.{placed_cong, filled_suc, filled_cong, zeros-get_or}
use Rattle.transform_1d.proofs.MatrixLaws.{transform_line_cong}
use Rattle.stages_wide.specs.Parts.{limited_at, stage_of, ColumnPlaced}
use Rattle.stages_wide.specs.Products.{limited_up_to, matrix_value, Picked, RoundNeeds, ProductsNeeds, LimitedNeeds}
use Rattle.stages_wide.proofs.PartsLaws.{limited_within}
use Rattle.stages_wide.proofs.StageLaws.{place-column, place_inside}
use Rattle.stages_wide.proofs.ColumnLaws.{column_placed_cong, column_of_length}

placed_run : {w : ℕ} {f : ℕ → ℤ} {xs ys : List ℤ} → Placed 0 w f xs ys → (i : ℕ) → i < w → get_or ys i (pos 0) ≡ f i
placed_run {ys = ys} p i h = ap (λ (k : ℕ). get_or ys k (pos 0)) (sym (zero-add i)) ∙ p.done i h

pub limited_up_to_in : (r : ℕ) (xs : List ℤ) (w i : ℕ) → i < w → limited_up_to r xs w i ≡ limited_at r xs i
unfolding limited_up_to
limited_up_to_in r xs w i h = rw (lt-ltb i w h)

pub limited_up_to-past : (r : ℕ) (xs : List ℤ) (w i : ℕ) → w ≤ i → limited_up_to r xs w i ≡ pos 0
unfolding limited_up_to
limited_up_to-past r xs w i h = rw (le-ltb i w h)

limited_up_to_small : {r : ℕ} (xs : List ℤ) (w i : ℕ) → r ≤ 22 → Within (2 ^ 22) (limited_up_to r xs w i)
limited_up_to_small {r} xs w i h =
    elim (dec_lt i w) [
      | yes y ↦ within_eq (limited_up_to_in r xs w i y) (limited_within _ h)
      | no d ↦ within_eq (limited_up_to-past r xs w i (omega arith)) (within_pos (omega arith))
    ]

-- ---- values that are limited as they are read
module _ (r w m : ℕ) (xs : List ℤ) {x : List ℤ} (p : Placed 0 w (limited_at r xs) (replicate m (pos 0)) x) where
  pub limited_values : (i : ℕ) → get_or x i (pos 0) ≡ limited_up_to r xs w i
  limited_values i =
      elim (dec_lt i w) [
        | yes y ↦ placed_run p i y ∙ sym (limited_up_to_in r xs w i y)
        | no d ↦ p.kept i (λ j h e. omega arith) ∙ zeros-get_or m i ∙ sym (limited_up_to-past r xs w i (omega arith))
      ]

  pub limited_needs_products : {n lines lead stride s source_length room : ℕ} → LimitedNeeds n lines lead stride s r w source_length room → length x ≡ n * n → ProductsNeeds n x lines lead stride s room
  limited_needs_products a e =
      record {
        reads = λ c k i j. omega (arith, a.inside c k i j, e);
        small = λ i. within_eq (limited_values i) (limited_up_to_small xs w i a.range_most);
        few = a.few;
        lead_most = a.lead_most;
        shift_least = a.shift_least;
        shift_most = a.shift_most;
        room = a.room;
      }

  pub filled-limited : (t : ℕ → ℕ → ℤ) (n lead stride s : ℕ) {rows : ℕ} {ys zs : List ℤ}
      → Filled n n (matrix_value t n (λ i. get_or x i (pos 0)) lead stride s) rows ys zs → Filled n n (matrix_value t n (limited_up_to r xs w) lead stride s) rows ys zs
  filled-limited t n lead stride s f =
      filled_cong
      (λ c j a b. ap (λ (z : ℤ). round_shift z s)
      (transform_line_cong t t n (λ k. get_or x (c * lead + k * stride) (pos 0)) (λ k. limited_up_to r xs w (c * lead + k * stride)) j (λ k h. refl) (λ k h. limited_values (c * lead + k * stride))))
      f

-- ---- one line
pub wide_values_picked : {n : ℕ} {at : ℕ → ℕ} {x v : List ℤ} → ((i : ℕ) → Within (2 ^ 22) (get_or x i (pos 0))) → Picked n at x v → WideValues n v
wide_values_picked {at = at} h p = record { at = λ k i. within_eq (p.same k i) (h (at k)) }

pub round_needs_outputs : {t : ℕ → ℕ → ℤ} {n : ℕ} {v z : List ℤ} {s : ℕ} → WideOutputs t n v z → 4 ≤ s → s ≤ 12 → RoundNeeds n z s
round_needs_outputs o a b = record { long = omega (arith, o.long); room = λ j i. within_le (omega arith) (o.bound j i); least = a; most = b }

pub filled_products : {t : ℕ → ℕ → ℤ} {n : ℕ} (x : List ℤ) (lead stride s : ℕ) {c : ℕ} {v z xs ys zs : List ℤ}
    → Picked n (λ k. c * lead + k * stride) x v → WideOutputs t n v z
    → Filled n n (matrix_value t n (λ i. get_or x i (pos 0)) lead stride s) c xs ys → Placed (c * n) n (λ j. round_shift (get_or z j (pos 0)) s) ys zs
    → Filled n n (matrix_value t n (λ i. get_or x i (pos 0)) lead stride s) (c + 1) xs zs
filled_products {t} {n} x lead stride s {c} {v} p o f q =
    filled_suc (omega arith) f
    (placed_cong
    (λ j i. ap (λ (z : ℤ). round_shift z s)
    (o.output j i ∙ transform_line_cong t t n (λ k. get_or v k (pos 0)) (λ k. get_or x (c * lead + k * stride) (pos 0)) j (λ k h. refl) (λ k h. p.same k h)))
    q)

pub picked_four : (x : List ℤ) (c : ℕ)
    → Picked 4 (λ k. c * 1 + k * 4) x (get_or x c (pos 0) ∷ get_or x (c + 4) (pos 0) ∷ get_or x (c + 8) (pos 0) ∷ get_or x (c + 12) (pos 0) ∷ [])
picked_four x c = record { long = refl; same = at }
  where
    at : (k : ℕ) → k < 4
        → get_or (get_or x c (pos 0) ∷ get_or x (c + 4) (pos 0) ∷ get_or x (c + 8) (pos 0) ∷ get_or x (c + 12) (pos 0) ∷ []) k (pos 0) ≡ get_or x (c * 1 + k * 4) (pos 0)
    at zero h = ap (λ (i : ℕ). get_or x i (pos 0)) (let e : c ≡ c * 1 + 0 * 4 = omega arith in e)
    at (suc zero) h = ap (λ (i : ℕ). get_or x i (pos 0)) (let e : c + 4 ≡ c * 1 + 1 * 4 = omega arith in e)
    at (suc (suc zero)) h = ap (λ (i : ℕ). get_or x i (pos 0)) (let e : c + 8 ≡ c * 1 + 2 * 4 = omega arith in e)
    at (suc (suc (suc zero))) h = ap (λ (i : ℕ). get_or x i (pos 0)) (let e : c + 12 ≡ c * 1 + 3 * 4 = omega arith in e)
    at (suc (suc (suc (suc k)))) h = absurd (not-suc-le-zero {n = k} (omega arith))

-- ---- what stages ask
pub limited_needs_four : {lines s r source_length room : ℕ} → lines ≤ 4 → 4 ≤ s → s ≤ 12 → r ≤ 22 → 16 ≤ source_length → 16 ≤ room → LimitedNeeds 4 lines 1 4 s r 16 source_length room
limited_needs_four h a b d e f =
    record {
      inside = λ c k i j. place_inside 4 1 4 c k (omega arith) (omega arith) j;
      whole = omega arith;
      few = h;
      lead_most = omega arith;
      shift_least = a;
      shift_most = b;
      range_most = d;
      source = e;
      room = omega arith;
    }

-- ---- a stage of 4 points
pub four_rows : (t : ℕ → ℕ → ℤ) (r s : ℕ) (xs : List ℤ) {rows : ℕ} {ys zs : List ℤ} → rows ≤ 4
    → Filled 4 4 (matrix_value t 4 (limited_up_to r xs 16) 1 4 s) rows ys zs → Filled 4 4 (stage_of t 4 (limited_block r 4 xs) s) rows ys zs
unfolding block_at
four_rows t r s xs h f =
    filled_cong
    (λ c j a b. ap (λ (z : ℤ). round_shift z s)
    (transform_line_cong t t 4 (λ k. limited_up_to r xs 16 (c * 1 + k * 4)) (λ k. limited_at r xs (k * 4 + c)) j (λ k i. refl)
    (λ k i. limited_up_to_in r xs 16 (c * 1 + k * 4) (place_inside 4 1 4 c k (omega arith) (omega arith) i) ∙ ap (limited_at r xs) (place-column 4 c k))))
    f

-- ---- one column by one line
pub column_values : {n r : ℕ} (coeff : List ℤ) (column : ℕ) {x₀ x : List ℤ} → r ≤ 22 → Placed 0 n (λ k. limited_at r coeff (k * n + column)) x₀ x → WideValues n x
column_values coeff column h p = record { at = λ k i. within_eq (placed_run p k i) (limited_within _ h) }

pub put_line : (t : ℕ → ℕ → ℤ) (n r : ℕ) (coeff : List ℤ) {column : ℕ} {x₀ x z r₀ y i₀ i : List ℤ} → Placed 0 n (λ k. limited_at r coeff (k * n + column)) x₀ x
    → WideOutputs t n x z → Placed 0 n (λ j. round_shift (get_or z j (pos 0)) 7) r₀ y → length y ≡ n → ColumnPlaced (length y) column (limited_at r y) (length y) i₀ i
    → ColumnPlaced n column (λ m. intermediate t n r (limited_block r n coeff) m column) n i₀ i
unfolding block_at intermediate stage_one_value stage_one_sum
put_line t n r coeff {column} {x = x} {y = y} p o q e f =
    column_placed_cong
    (λ m a. ap (clip_coeff r)
    (placed_run q m a
    ∙ ap (λ (v : ℤ). round_shift v 7)
    (o.output m a ∙ transform_line_cong t t n (λ k. get_or x k (pos 0)) (λ k. limited_at r coeff (k * n + column)) m (λ k i. refl) (λ k i. placed_run p k i))))
    (column_of_length e f)
