-- Laws of tiles.
--   shift_twice        twice a sum, shifted by one place more, is the sum shifted
--   head_of            the first values of a column, copied by a loop
--   rows_in, rows_past, rows_whole   what the first rows of a list read as
--   head_values        the first values of a column read as a column of the first rows
--   line_by-stage_two, line_by-intermediate   rounded lines are stage two, and limited what stage one writes, of the definitions
--   line_row           a line over a column, rounded, is a row of the stage
--   block_more, block_if   one row of a block more, or where it is not one of them none
--   block_wide         a block beside a block
--   filled_block       a block of whole rows below those that are filled
use mathlib.Core.Path.{◌≡◌, refl, sym, ap, ap₂, ◌∙◌, subst}
use mathlib.Core.Bool.{cond}
use mathlib.Core.List.{List, [], ◌∷◌, map}
use Prim.Native.Nat.{ℕ, zero, suc, ◌+◌, ◌*◌, ◌-◌, ◌/◌, ◌%◌, ◌^◌, ◌≤◌, ◌<◌}
use native.Mathlib.Nat.{pow-succ', one-mul, mul-le-mul_right, mul-div-mul_left, div-div-eq-div-mul, not-suc-le-zero}
use native.Mathlib.Decide.{ℕ_discrete, dec_lt}
use native.Mathlib.Numerals.{add-one}
use native.Mathlib.Omega.{arith}
use lib.Arith.{digits_lt}
use lib.IntN.{ℤ, pos, negsuc, ◌+ℤ◌, ◌*ℤ◌}
use lib.ListN.{get_or, length, set, get_or-eq_default}
use lib.Seq.{ext_get_or, get_or-set_same, get_or-set_other}
use Rattle.std.specs.Cmp.{ranks}
use Rattle.std.proofs.Common.{Ordering, Less, Equal, Greater}
use Rattle.std.specs.Ordering.{MatchOrdering, ord_min, nat_cmp, is_lt}
use Rattle.std.proofs.lemmas.List.{map-id, map-set, length-map, get_or-map}
use lib.Signed.{shr_z}
use Rattle.integers.specs.Shift.{pow2, shift_right, round_shift}
use Rattle.integers.specs.Lists.{tabulate}
use Rattle.integers.specs.Within.{Within}
use Rattle.integers.proofs.BoundLaws.{within_eq, within_pos, within_fits, within_lit_mul}
use mir.Syntax.{w32}
use mir.Val.{to_z, of_z, SFits}
use mir.Facts.{to_z-of_z}
use Rattle.integers.proofs.LinearLaws.{parts_ext, parts_mul}
use Rattle.integers.proofs.OrderLaws.{*ℤ-+ℤ}
use Rattle.integers.proofs.ListsLaws.{tabulate-length, tabulate-get_or, Stored, stored_length, stored_all, overwrite-get_or}
use Rattle.h265.specs.Transform.{transform_line, block_at, stage_one_sum, stage_one_value, intermediate, stage_two, stage_two_sum}
use Rattle.h265.specs.Range.{clip_coeff}
use Rattle.h265.proofs.TransformLaws.{transform_line_cong}
use Rattle.lines.specs.Fold.{round_most, TwiceBy}
use Rattle.transform_1d.specs.Rows.{Placed, Filled}
use Rattle.transform_1d.proofs.RowsLaws.{row_unique, filled-all}
use Rattle.std.proofs.Math.Nat.{add-mul}
use Rattle.std.proofs.Common.{mul-le-mul}
use Rattle.vectors.specs.Lanes.{lane, column, four_of, eight_of, Turned}
use Rattle.tiles.specs.Tile.{first_rows, line_by, paired, Head, Values, Block}

-- ---- rounding
shr_twice : (z : ℤ) (m : ℕ) → shr_z (pos 2 *ℤ z) (2 * m) ≡ shr_z z m
shr_twice (pos a) m = ap pos (mul-div-mul_left a m (omega arith))
shr_twice (negsuc a) m =
    ap (λ (x : ℤ). shr_z x (2 * m)) (parts_ext (pos 2 *ℤ negsuc a) (negsuc (2 * a + 1)) (omega (arith, parts_mul (pos 2) (negsuc a))))
    ∙ ap negsuc (sym (div-div-eq-div-mul (2 * a + 1) 2 m) ∙ ap (λ (x : ℕ). x / m) (let e : (2 * a + 1) / 2 ≡ a = omega arith in e))

pub shift_twice : (x h : ℤ) (s : ℕ) → shift_right (pos 2 *ℤ x +ℤ pos 2 *ℤ h) (s + 1) ≡ shift_right (x +ℤ h) s
unfolding shift_right
shift_twice x h s =
    ap₂ (λ (z : ℤ) (m : ℕ). shr_z z m) (sym (*ℤ-+ℤ (pos 2) x h)) (ap (λ (i : ℕ). 2 ^ i) (add-one s) ∙ pow-succ' 2 s)
    ∙ shr_twice (x +ℤ h) (2 ^ s)

-- twice what is added before a shift, as the machine has it
pub twice_half : {h : ℤ} → SFits w32 h → Within (2 ^ 27) h → to_z w32 (of_z w32 (pos 2 *ℤ to_z w32 (of_z w32 h))) ≡ pos 2 *ℤ to_z w32 (of_z w32 h)
twice_half f w = to_z-of_z {w = w32} (simp (to_z-of_z, f) (within_fits tt (within_lit_mul 2 w)))

pub twice_within : {h : ℤ} → SFits w32 h → Within (2 ^ 27) h → Within round_most (to_z w32 (of_z w32 (pos 2 *ℤ to_z w32 (of_z w32 h))))
twice_within {h} f w = within_eq (twice_half f w ∙ ap (λ (x : ℤ). pos 2 *ℤ x) (to_z-of_z f)) (within_lit_mul 2 w)

-- ---- columns and rows
pub stored_at : {f : ℕ → ℤ} {r₀ r : List ℤ} {k q : ℕ} → Stored f r₀ k r → k ≡ q → (i : ℕ) → i < q → get_or r i (pos 0) ≡ f i
stored_at {f} {r₀} {q = q} s e i h = ap (λ (x : List ℤ). get_or x i (pos 0)) (stored_all s e) ∙ overwrite-get_or q f r₀ i (pos 0) h

-- the first values of a column, stored by a loop
pub head_of : {q : ℕ} (n : ℕ) {xs : List ℤ} {c : ℕ} {r₀ r : List ℤ} {k : ℕ} → Stored (λ i. get_or xs (i * n + c) (pos 0)) r₀ k r → length r₀ ≡ q → k ≡ q → Head q n xs c r
head_of {q} n {xs} {c} {r₀} {r} s l e =
    record {
      long = stored_length s ∙ l;
      at = λ k h. stored_at s e k h;
    }

-- ---- the first rows of a list
pub rows_in : (q n : ℕ) (xs : List ℤ) (i : ℕ) → i < q * n → get_or (first_rows q n xs) i (pos 0) ≡ get_or xs i (pos 0)
unfolding first_rows
rows_in q n xs i h = tabulate-get_or (q * n) (λ i. get_or xs i (pos 0)) i (pos 0) h

pub rows_past : (q n : ℕ) (xs : List ℤ) (i : ℕ) → q * n ≤ i → get_or (first_rows q n xs) i (pos 0) ≡ pos 0
unfolding first_rows
rows_past q n xs i h = get_or-eq_default (tabulate (q * n) (λ i. get_or xs i (pos 0))) (pos 0) (omega (arith, tabulate-length (q * n) (λ i. get_or xs i (pos 0))))

-- of a list that has no more they are the whole of it
pub rows_whole : (q n : ℕ) (xs : List ℤ) → length xs ≡ q * n → first_rows q n (map (λ x. x) xs) ≡ xs
unfolding first_rows
rows_whole q n xs e =
    ap (first_rows q n) (map-id xs)
    ∙ ext_get_or (pos 0) (first_rows q n xs) xs (tabulate-length (q * n) (λ i. get_or xs i (pos 0)) ∙ sym e)
    (λ i l. rows_in q n xs i (omega (arith, l, tabulate-length (q * n) (λ i. get_or xs i (pos 0)))))

-- past the values that are there both read as zero
pub head_values : {q n : ℕ} {xs : List ℤ} {c : ℕ} {r : List ℤ} → c < n → Head q n xs c r → Values n (first_rows q n xs) c r
head_values {q} {n} {xs} {c} {r} o p =
    record {
      at = λ k a.
          elim (dec_lt k q) [
            | yes y ↦ p.at k y ∙ sym (rows_in q n xs (k * n + c) (digits_lt {q = k} {m = q} {r = c} {c = n} y o))
            | no d ↦ get_or-eq_default r (pos 0) (omega (arith, p.long)) ∙ sym (rows_past q n xs (k * n + c) (omega (arith, mul-le-mul_right n (let l : q ≤ k = omega arith in l))))
          ];
    }

pub line_row : {t : ℕ → ℕ → ℤ} {n : ℕ} (h : ℤ) (s : ℕ) {xs : List ℤ} {c : ℕ} {r z : List ℤ} {tw : ℤ} → Values n xs c r → TwiceBy t n 1 r tw z → tw ≡ pos 2 *ℤ h
    → (m : ℕ) → m < n → shift_right (get_or z m (pos 0)) (s + 1) ≡ line_by t n h s xs c m
unfolding line_by block_at
line_row {t} {n} h s {xs} {c} {r} p q e m l =
    ap (λ (x : ℤ). shift_right x (s + 1)) (q.at m l ∙ ap (λ (y : ℤ). pos 2 *ℤ transform_line t n (λ k. get_or r (1 * k) (pos 0)) m +ℤ y) e)
    ∙ shift_twice (transform_line t n (λ k. get_or r (1 * k) (pos 0)) m) h s
    ∙ ap (λ (x : ℤ). shift_right (x +ℤ h) s)
    (transform_line_cong t n (λ k. get_or r (1 * k) (pos 0)) (λ k. get_or xs (k * n + c) (pos 0)) m
    (λ k a. ap (λ (i : ℕ). get_or r i (pos 0)) (one-mul k) ∙ p.at k a))

-- numbers that stand for themselves
pub filled_same : {n : ℕ} {g : ℕ → ℕ → ℤ} {r : ℕ} {xs ys : List ℤ} → Filled n n g r (map (λ x. x) xs) (map (λ x. x) ys) → Filled n n g r xs ys
filled_same {xs = xs} {ys} p = rw (map-id xs, map-id ys) at p

-- with half the divisor it is a rounded line: stage two of a block that is turned over, and, limited, the intermediate of stage one
pub line_by-stage_two : (t : ℕ → ℕ → ℤ) (n s : ℕ) (xs : List ℤ) (c m : ℕ) → line_by t n (pow2 (s - 1)) s xs c m ≡ stage_two t n s (λ i k. block_at n xs k i) c m
unfolding line_by stage_two stage_two_sum round_shift
line_by-stage_two t n s xs c m = refl

pub line_by-intermediate : (t : ℕ → ℕ → ℤ) (n : ℕ) (xs : List ℤ) (c m : ℕ) → clip_coeff 15 (line_by t n (pos 64) 7 xs c m) ≡ intermediate t n 15 (block_at n xs) m c
unfolding line_by intermediate stage_one_value stage_one_sum round_shift
line_by-intermediate t n xs c m = refl

-- ---- blocks: e values of each of w rows, rows n apart
pub block_none : {at n e : ℕ} {f : ℕ → ℕ → ℤ} {ys : List ℤ} → Block at n e f 0 ys ys
block_none = record { long = refl; done = λ j m h. absurd (not-suc-le-zero h); kept = λ i h. refl }

pub block_empty : {at n w : ℕ} {f : ℕ → ℕ → ℤ} {ys : List ℤ} → Block at n 0 f w ys ys
block_empty = record { long = refl; done = λ j m l h. absurd (not-suc-le-zero h); kept = λ i h. refl }

pub block_all : {at n e v w : ℕ} {f : ℕ → ℕ → ℤ} {ys zs : List ℤ} → v ≡ w → Block at n e f v ys zs → Block at n e f w ys zs
block_all {at} {n} {e} {f = f} {ys} {zs} q p = subst (λ (k : ℕ). Block at n e f k ys zs) q p

pub block_width : {at n d e w : ℕ} {f : ℕ → ℕ → ℤ} {ys zs : List ℤ} → d ≡ e → Block at n d f w ys zs → Block at n e f w ys zs
block_width {at} {n} {w = w} {f} {ys} {zs} q p = subst (λ (k : ℕ). Block at n k f w ys zs) q p

pub block_sized : {at k n w : ℕ} {f : ℕ → ℕ → ℤ} {ys zs : List ℤ} → k ≡ n → Block at k k f w ys zs → Block at n n f w ys zs
block_sized {at} {w = w} {f} {ys} {zs} q p = subst (λ (k : ℕ). Block at k k f w ys zs) q p

pub block_cong : {at n e w : ℕ} {f g : ℕ → ℕ → ℤ} {ys zs : List ℤ} → ((j m : ℕ) → j < w → m < e → f j m ≡ g j m) → Block at n e f w ys zs → Block at n e g w ys zs
block_cong h p = record { long = p.long; done = λ j m a b. p.done j m a b ∙ h j m a b; kept = p.kept }

pub block_more : {at n e k : ℕ} {f : ℕ → ℕ → ℤ} {xs ys zs : List ℤ} → e ≤ n → Block at n e f k xs ys → Placed (at + k * n) e (f k) ys zs → Block at n e f (k + 1) xs zs
block_more {at} {n} {e} {k} {f} {xs} {ys} {zs} l p q =
    record {
      long = q.long ∙ p.long;
      done = λ j m a b.
          elim (ℕ_discrete j k) [
            | yes y ↦ rw y (q.done m b)
            | no d ↦ q.kept (at + j * n + m) (λ i c g. d (row_unique n j k m i (omega arith) (omega arith) (omega arith))) ∙ p.done j m (omega arith) b
          ];
      kept = λ i h. q.kept i (λ m a b. h k m (omega arith) a b) ∙ p.kept i (λ j m a b c. h j m (omega arith) b c);
    }

-- where row k is not one of w, the list stays
pub block_if : {at n e w k : ℕ} {f : ℕ → ℕ → ℤ} {xs ys zs : List ℤ} → e ≤ n → Block at n e f (k - (k - w)) xs ys
    → (k < w → Placed (at + k * n) e (f k) ys zs) × (w ≤ k → zs ≡ ys) → Block at n e f (k + 1 - (k + 1 - w)) xs zs
block_if {at} {n} {e} {w} {k} {f} {xs} l p q =
    elim (dec_lt k w) [
      | yes y ↦ block_all (omega arith) (block_more l (block_all {w = k} (omega arith) p) (q.0 y))
      | no d ↦ subst (λ (z : List ℤ). Block at n e f (k + 1 - (k + 1 - w)) xs z) (sym (q.1 (omega arith))) (block_all (omega arith) p)
    ]

-- four rows, of which the first w are stored
pub block_four : {at n e w : ℕ} {f : ℕ → ℕ → ℤ} {y a b c d : List ℤ} → w ≤ 4 → e ≤ n
    → (0 < w → Placed at e (f 0) y a) × (w ≤ 0 → a ≡ y)
    → (1 < w → Placed (at + n) e (f 1) a b) × (w ≤ 1 → b ≡ a)
    → (2 < w → Placed (at + 2 * n) e (f 2) b c) × (w ≤ 2 → c ≡ b)
    → (3 < w → Placed (at + 3 * n) e (f 3) c d) × (w ≤ 3 → d ≡ c)
    → Block at n e f w y d
block_four {at} {n} {e} {w} {f} {y} {a} {b} l h p q r s =
    block_all (omega arith) (block_if {k = 3} h (block_if {k = 2} h (block_if {k = 1} h (block_if {k = 0} h (block_all {v = 0} (let z : 0 ≡ 0 - (0 - w) = omega arith in z) block_none)
    ((λ g. subst (λ (i : ℕ). Placed i e (f 0) y a) (let z : at ≡ at + 0 * n = omega arith in z) (p.0 g)), p.1))
    ((λ g. subst (λ (i : ℕ). Placed i e (f 1) a b) (let z : at + n ≡ at + 1 * n = omega arith in z) (q.0 g)), q.1)) r) s)

-- a row by another name
pub by_row : {at e j w : ℕ} {p q ys zs : List ℤ} → p ≡ q → (j < w → Placed at e (λ m. lane m p) ys zs) × (w ≤ j → zs ≡ ys)
    → (j < w → Placed at e (λ m. lane m q) ys zs) × (w ≤ j → zs ≡ ys)
by_row {at} {e} {j} {w} {ys = ys} {zs} g h = subst (λ (v : List ℤ). (j < w → Placed at e (λ m. lane m v) ys zs) × (w ≤ j → zs ≡ ys)) g h

pub block_wide : {at n d e w : ℕ} {f : ℕ → ℕ → ℤ} {xs ys zs : List ℤ} → d + e ≤ n → Block at n d f w xs ys → Block (at + d) n e (λ j m. f j (d + m)) w ys zs
    → Block at n (d + e) f w xs zs
block_wide {at} {n} {d} {e} {w} {f} {xs} {ys} {zs} l p q =
    record {
      long = q.long ∙ p.long;
      done = λ j m a b.
          elim (dec_lt m d) [
            | yes y ↦ q.kept (at + j * n + m) (λ k i g h c. let u : j ≡ k = row_unique n j k m (d + i) (omega arith) (omega arith) (omega arith) in let v : j * n ≡ k * n = ap (λ (x : ℕ). x * n) u in omega arith) ∙ p.done j m a y
            | no z ↦ ap (λ (i : ℕ). get_or zs i (pos 0)) (let u : at + j * n + m ≡ at + d + j * n + (m - d) = omega arith in u)
                ∙ q.done j (m - d) a (omega arith) ∙ ap (f j) (let u : d + (m - d) ≡ m = omega arith in u)
          ];
      kept = λ i h. q.kept i (λ j m a b c. h j (d + m) a (omega arith) (omega arith)) ∙ p.kept i (λ j m a b c. h j m a (omega arith) c);
    }

pub filled_block : {n b w : ℕ} {g f : ℕ → ℕ → ℤ} {xs ys zs : List ℤ} → Filled n n g b xs ys → Block (b * n) n n f w ys zs
    → ((j m : ℕ) → j < w → m < n → f j m ≡ g (b + j) m) → Filled n n g (b + w) xs zs
filled_block {n} {b} {w} {g} {f} {xs} {ys} {zs} p q h =
    record {
      long = q.long ∙ p.long;
      done = λ r m l a.
          elim (dec_lt r b) [
            | yes y ↦ q.kept (r * n + m) (λ j k c d e. let u : r ≡ b + j = row_unique n r (b + j) m k a d (omega (arith, e, add-mul b j n)) in omega arith) ∙ p.done r m y a
            | no d ↦ ap (λ (i : ℕ). get_or zs i (pos 0)) (let u : b + (r - b) ≡ r = omega arith in let v : (b + (r - b)) * n ≡ r * n = ap (λ (x : ℕ). x * n) u in omega (arith, add-mul b (r - b) n, v))
                ∙ q.done (r - b) m (omega arith) a ∙ h (r - b) m (omega arith) a
                ∙ ap (λ (i : ℕ). g i m) (let e : b + (r - b) ≡ r = omega arith in e)
          ];
      kept = λ i k. q.kept i (λ j m l a e. k (b + j) m (omega arith) a (omega (arith, e, add-mul b j n))) ∙ p.kept i (λ r m l a e. k r m (omega arith) a e);
    }

-- the lesser of two
pub least_is : (a b : ℕ) → ord_min nat_cmp a b ≡ a - (a - b)
least_is a b = by_order (nat_cmp b a) (ranks b a)
  where
    by_order : (r : Ordering) → MatchOrdering r (b < a) (b ≡ a) (a < b) → cond (is_lt r) b a ≡ a - (a - b)
    by_order Less h = omega arith
    by_order Equal h = omega arith
    by_order Greater h = omega arith

-- as many rows as are left, and no more than four, have their room
pub rows_room : {n b w k len : ℕ} → n ≤ 32 → b ≤ 32 → b < k → w ≡ ord_min nat_cmp 4 (k - b) → k * n ≤ len → (w ≤ 4) × (b * n ≤ 1024) × (b * n + w * n ≤ len)
rows_room {n} {b} {w} {k} l h o e r =
    let a = least_is 4 (k - b) in
    (omega (arith, a, e), omega (arith, mul-le-mul h l), omega (arith, add-mul b w n, mul-le-mul_right n (let z : b + w ≤ k = omega (arith, a, e) in z), r))

-- four rows more, or as many as are left
pub rows_left : {n k b w x : ℕ} {g f : ℕ → ℕ → ℤ} {xs ys zs : List ℤ} → Filled n n g (b - (b - k)) xs ys → b < k → w ≡ ord_min nat_cmp 4 (k - b)
    → Block (b * n) n n f w ys zs → ((j m : ℕ) → j < 4 → m < n → f j m ≡ g (b + j) m) → x ≡ b + 4 - (b + 4 - k) → Filled n n g x xs zs
rows_left {k = k} {b} p l e q h y =
    let a = least_is 4 (k - b) in
    filled-all _ (omega (arith, a, e, y)) (filled_block (filled-all b (omega arith) p) q (λ j m o. h j m (omega (arith, a, e))))

-- ---- vectors that are stored
-- lane j of element i
pub column_at : {A : Type 0} (f : A → List ℤ) (j : ℕ) (xs : List A) (i : ℕ) (d : A) → i < length xs → lane j (f (get_or xs i d)) ≡ get_or (column f j xs) i (pos 0)
column_at f j xs i d l = sym (get_or-map (λ y. lane j (f y)) xs i d (pos 0) l)

pub four_lanes : (g : ℕ → ℤ) {a b c d : ℤ} → a ≡ g 0 → b ≡ g 1 → c ≡ g 2 → d ≡ g 3 → (m : ℕ) → m < 4 → lane m (a ∷ b ∷ c ∷ d ∷ []) ≡ g m
four_lanes g p q r s zero l = p
four_lanes g p q r s (suc zero) l = q
four_lanes g p q r s (suc (suc zero)) l = r
four_lanes g p q r s (suc (suc (suc zero))) l = s
four_lanes g p q r s (suc (suc (suc (suc m)))) l = absurd (let b : ⊥ = omega arith in b)

pub eight_lanes : (g : ℕ → ℤ) {a b c d i j k h : ℤ} → a ≡ g 0 → b ≡ g 1 → c ≡ g 2 → d ≡ g 3 → i ≡ g 4 → j ≡ g 5 → k ≡ g 6 → h ≡ g 7
    → (m : ℕ) → m < 8 → lane m (a ∷ b ∷ c ∷ d ∷ i ∷ j ∷ k ∷ h ∷ []) ≡ g m
eight_lanes g p q r s t u v w zero l = p
eight_lanes g p q r s t u v w (suc zero) l = q
eight_lanes g p q r s t u v w (suc (suc zero)) l = r
eight_lanes g p q r s t u v w (suc (suc (suc zero))) l = s
eight_lanes g p q r s t u v w (suc (suc (suc (suc m)))) l = four_lanes (λ i. g (suc (suc (suc (suc i))))) t u v w m (omega arith)

-- numbers that stand for themselves
pub block_same : {at n e w : ℕ} {f : ℕ → ℕ → ℤ} {xs ys : List ℤ} → Block at n e f w xs ys → Block at n e f w (map (λ x. x) xs) (map (λ x. x) ys)
block_same {xs = xs} {ys} p = rw (map-id xs, map-id ys) p

-- the same of an element that was read
pub read_at : {A : Type 0} (f : A → List ℤ) (j : ℕ) (xs : List A) (i : ℕ) (a : A) → a ≡ get_or xs i a → i < length xs → lane j (f a) ≡ get_or (column f j xs) i (pos 0)
read_at f j xs i a e l = ap (λ y. lane j (f y)) e ∙ column_at f j xs i a l

-- four vectors that were read, from element k on, and a column of them
pub four_columns : {A : Type 0} (f : A → List ℤ) (xs : List A) (k : ℕ) (a b c d : A) → k + 4 ≤ length xs
    → a ≡ get_or xs k a → b ≡ get_or xs (k + 1) b → c ≡ get_or xs (k + 2) c → d ≡ get_or xs (k + 3) d
    → (j m : ℕ) → m < 4 → lane m (four_of j (f a) (f b) (f c) (f d)) ≡ get_or (column f j xs) (k + m) (pos 0)
four_columns f xs k a b c d l p q r s j m h =
    four_lanes (λ m. get_or (column f j xs) (k + m) (pos 0))
    (read_at f j xs k a p (omega (arith, l)) ∙ ap (λ (i : ℕ). get_or (column f j xs) i (pos 0)) (let z : k ≡ k + 0 = omega arith in z))
    (read_at f j xs (k + 1) b q (omega (arith, l))) (read_at f j xs (k + 2) c r (omega (arith, l))) (read_at f j xs (k + 3) d s (omega (arith, l))) m h

-- four vectors in a row, turned over and stored
pub block_turned : {A : Type 0} (f : A → List ℤ) (xs : List A) (k : ℕ) (a b c d : A) {at n w : ℕ} {p q r s y g h i z : List ℤ} → k + 4 ≤ length xs
    → a ≡ get_or xs k a → b ≡ get_or xs (k + 1) b → c ≡ get_or xs (k + 2) c → d ≡ get_or xs (k + 3) d → w ≤ 4 → 4 ≤ n
    → Turned (f a) (f b) (f c) (f d) p q r s
    → (0 < w → Placed at 4 (λ m. lane m p) y g) × (w ≤ 0 → g ≡ y)
    → (1 < w → Placed (at + n) 4 (λ m. lane m q) g h) × (w ≤ 1 → h ≡ g)
    → (2 < w → Placed (at + 2 * n) 4 (λ m. lane m r) h i) × (w ≤ 2 → i ≡ h)
    → (3 < w → Placed (at + 3 * n) 4 (λ m. lane m s) i z) × (w ≤ 3 → z ≡ i)
    → Block at n 4 (λ j m. get_or (column f j xs) (k + m) (pos 0)) w y z
block_turned f xs k a b c d l t u v x m e g p q r s =
    block_cong (λ j i o h. four_columns f xs k a b c d l t u v x j i h)
    (block_four {f = λ j m. lane m (four_of j (f a) (f b) (f c) (f d))} m e (by_row g.first p) (by_row g.second q) (by_row g.third r) (by_row g.fourth s))

-- four that were read, each as c makes it
pub four_made : {A : Type 0} (f : A → List ℤ) (c : ℤ → ℤ) (xs : List A) (a b d e : A) (p q r s : List ℤ) → 4 ≤ length xs
    → a ≡ get_or xs 0 a → b ≡ get_or xs 1 b → d ≡ get_or xs 2 d → e ≡ get_or xs 3 e
    → ((j : ℕ) → j < 4 → lane j p ≡ c (lane j (f a))) → ((j : ℕ) → j < 4 → lane j q ≡ c (lane j (f b)))
    → ((j : ℕ) → j < 4 → lane j r ≡ c (lane j (f d))) → ((j : ℕ) → j < 4 → lane j s ≡ c (lane j (f e)))
    → (j m : ℕ) → j < 4 → m < 4 → lane m (four_of j p q r s) ≡ c (get_or (column f j xs) m (pos 0))
four_made f c xs a b d e p₀ q₀ r₀ s₀ l a₁ b₁ d₁ e₁ p q r s j m o z =
    four_lanes (λ m. c (get_or (column f j xs) m (pos 0)))
    (p j o ∙ ap c (read_at f j xs 0 a a₁ (omega (arith, l)))) (q j o ∙ ap c (read_at f j xs 1 b b₁ (omega (arith, l))))
    (r j o ∙ ap c (read_at f j xs 2 d d₁ (omega (arith, l)))) (s j o ∙ ap c (read_at f j xs 3 e e₁ (omega (arith, l)))) m z

-- ---- outputs that stand two and two in rows
-- one row more, of which the first half has output 2t of each line and the second half output 2t + 1
pub paired_more : {A : Type 0} (f : A → List ℤ) (g : ℕ → ℕ → ℤ) (ys : List A) (t : ℕ) (r : A) → t < length ys
    → ((j m : ℕ) → j < 4 → m < 2 * t → paired f j ys m ≡ g j m) → ((j : ℕ) → j < 4 → (lane j (f r) ≡ g j (2 * t)) × (lane (4 + j) (f r) ≡ g j (2 * t + 1)))
    → (j m : ℕ) → j < 4 → m < 2 * (t + 1) → paired f j (set ys t r) m ≡ g j m
paired_more f g ys t r l p h j m o z =
    ap (λ (xs : List ℤ). get_or xs (m / 2) (pos 0)) (map-set (λ x. lane (4 * (m % 2) + j) (f x)) ys t r)
    ∙ elim (ℕ_discrete (m / 2) t) [
      | yes y ↦ ap (λ (i : ℕ). get_or (set (column f (4 * (m % 2) + j) ys) t (lane (4 * (m % 2) + j) (f r))) i (pos 0)) y
          ∙ get_or-set_same (column f (4 * (m % 2) + j) ys) t (lane (4 * (m % 2) + j) (f r)) (pos 0) (omega (arith, length-map ys (λ x. lane (4 * (m % 2) + j) (f x)), l))
          ∙ elim (ℕ_discrete (m % 2) 0) [
            | yes e ↦ ap (λ (i : ℕ). lane i (f r)) (let u : 4 * (m % 2) + j ≡ j = omega arith in u) ∙ (h j o).0 ∙ ap (g j) (let u : 2 * t ≡ m = omega arith in u)
            | no d ↦ ap (λ (i : ℕ). lane i (f r)) (let u : 4 * (m % 2) + j ≡ 4 + j = omega arith in u) ∙ (h j o).1 ∙ ap (g j) (let u : 2 * t + 1 ≡ m = omega arith in u)
          ]
      | no d ↦ get_or-set_other (column f (4 * (m % 2) + j) ys) t (m / 2) (lane (4 * (m % 2) + j) (f r)) (pos 0) d ∙ p j m o (omega arith)
    ]

-- four rows that were read, from element n on
pub eight_paired : {A : Type 0} (f : A → List ℤ) (xs : List A) (n : ℕ) (a b d e : A) → n + 4 ≤ length xs
    → a ≡ get_or xs n a → b ≡ get_or xs (n + 1) b → d ≡ get_or xs (n + 2) d → e ≡ get_or xs (n + 3) e
    → (j m : ℕ) → j < 4 → m < 8 → lane m (eight_of j (f a) (f b) (f d) (f e)) ≡ paired f j xs (2 * n + m)
eight_paired {A} f xs n a b d e l a₁ b₁ d₁ e₁ j m o z =
    eight_lanes (λ m. paired f j xs (2 * n + m))
    (at 0 0 j a a₀ (omega arith) (omega arith) (omega arith)) (at 0 1 (4 + j) a a₀ (omega arith) (omega arith) (omega arith))
    (at 1 0 j b b₁ (omega arith) (omega arith) (omega arith)) (at 1 1 (4 + j) b b₁ (omega arith) (omega arith) (omega arith))
    (at 2 0 j d d₁ (omega arith) (omega arith) (omega arith)) (at 2 1 (4 + j) d d₁ (omega arith) (omega arith) (omega arith))
    (at 3 0 j e e₁ (omega arith) (omega arith) (omega arith)) (at 3 1 (4 + j) e e₁ (omega arith) (omega arith) (omega arith)) m z
  where
    a₀ : a ≡ get_or xs (n + 0) a
    a₀ = a₁ ∙ ap (λ (i : ℕ). get_or xs i a) (let u : n ≡ n + 0 = omega arith in u)

    at : (u i v : ℕ) (y : A) → y ≡ get_or xs (n + u) y → u < 4 → i < 2 → v ≡ 4 * i + j → lane v (f y) ≡ paired f j xs (2 * n + (2 * u + i))
    at u i v y w k g h =
        read_at f v xs (n + u) y w (omega (arith, l))
        ∙ ap₂ (λ (p q : ℕ). get_or (column f p xs) q (pos 0)) (let e : v ≡ 4 * ((2 * n + (2 * u + i)) % 2) + j = omega arith in e) (let e : n + u ≡ (2 * n + (2 * u + i)) / 2 = omega arith in e)

-- the number that is added, in each of four lanes and past them
pub lanes_within : (v : List ℤ) {x : ℤ} {b : ℕ} → length v ≡ 4 → ((j : ℕ) → j < 4 → lane j v ≡ x) → Within b x → (j : ℕ) → Within b (lane j v)
lanes_within v {x} {b} l e w j =
    elim (dec_lt j 4) [
      | yes y ↦ within_eq (e j y) w
      | no d ↦ within_eq (get_or-eq_default v (pos 0) (omega (arith, l))) (within_pos (omega arith))
    ]
