-- Laws of accumulation.
--   accumulated_first          a sample with none before it stays
--   Follows, accumulated_later another is added to the sum at the sample before it, `step_back` away
--   column_mask, cell_row   the column of an index by a mask; its row
--   accumulated_within         a sum of at most 32 samples of at most 2^22 is at most 2^27
--   accumulated_cong           blocks that agree have the same sums
--   stored_kept, -done, -rest  a loop that leaves an element that is right as it stands; an element that it stored, and one that it has not come to
--   stored_firsts              a loop that begins past samples with none before them
--   along_first, -later, down_first, -later   a sample at the start of its row, and one behind it; one in the first row, and one below it
--   taken_fits, taken_stored   the sum that a loop stores at a sample, by the one before it: it fits 32 bits, and is right
use Rattle.std.specs.Prelude.{Option, Some, None}
use mathlib.Core.Path.{◌≡◌, refl, sym, ap, ap₂, subst, ◌∙◌}
use mathlib.Core.Bool.{cond}
use mathlib.Core.List.{List}
use Prim.Native.Nat.{ℕ, zero, suc, ◌+◌, ◌-◌, ◌*◌, ◌/◌, ◌%◌, ◌≤◌, ◌<◌}
use native.Mathlib.Nat.{div-add-mod', mod-lt, mul-le-mul_right, suc-mul}
use native.Mathlib.Decide.{ℕ_discrete, dec_lt}
use native.Mathlib.Omega.{arith}
use borrow.Author.Tests.{lt-ltb, le-ltb, ne_eqb}
use lib.Arith.{digits_div, digits_mod, digits_lt}
use lib.Bits.{bit_and, and_mask}
use lib.Dec.{T, eqb}
use lib.IntN.{ℤ, pos, ◌+ℤ◌, +ℤ_idl, +ℤ_comm}
use lib.ListN.{length, set}
use lib.Seq.{set-get_or}
use mir.Syntax.{w32}
use mir.Val.{SFits, to_z, of_z}
use Rattle.integers.specs.Sum.{sum}
use Rattle.integers.specs.Within.{Within}
use Rattle.integers.proofs.MachineLaws.{round_trip}
use Rattle.integers.proofs.BoundLaws.{within_le, within_fits}
use Rattle.integers.proofs.ListsLaws.{Stored, stored_more, overwrite_cong, overwrite-get_or, overwrite-get_or-past}
use Rattle.integers.proofs.SumLaws.{sum_zero, sum_suc, sum_cong, sum_bound}
use Rattle.h265.specs.Range.{is_size}
use Rattle.h265.proofs.RangeLaws.{size_cases, size_bound}
use Rattle.block_tool_rules.specs.declared.Accumulate.{Accumulate}
use Rattle.block_tool_rules.specs.declared.Accumulate.TheVariants.{Off, AlongRows, DownColumns}
use Rattle.block_tool_rules.specs.Modification.{accumulated_row, accumulated_column, accumulated}
use Rattle.h265.proofs.TransformLaws.{cell_row}
use Rattle.block_tool_work.specs.Work.{step_back, at, Summable}
use Rattle.block_tool_work.proofs.RotationLaws.{overwrite_self}

-- none is no distance, and a distance is by what stands in it
Far : Option ℕ → Type 0
Far None = ⊥
Far (Some back) = Unit {0}

clash : {back : ℕ} → None ≡ Some back → ⊥
unfolding Far
clash e = subst Far (sym e) tt

distance : ℕ → Option ℕ → ℕ
distance z None = z
distance z (Some back) = back

sum_one : (f : ℕ → ℤ) → sum 1 f ≡ f 0
sum_one f = sum_suc 0 f ∙ ap (λ (z : ℤ). z +ℤ f 0) (sum_zero f) ∙ +ℤ_idl (f 0)

-- ---- by row and column
module _ (n : ℕ) (f : ℕ → ℤ) (k c : ℕ) where
  row_at : c < n → accumulated_row n f (k * n + c) ≡ sum (suc c) (λ j. f (k * n + j))
  unfolding accumulated_row
  row_at h = ap₂ (λ (q r : ℕ). sum (suc r) (λ j. f (q * n + j))) (digits_div k h) (digits_mod k h)

  column-at : c < n → accumulated_column n f (k * n + c) ≡ sum (suc k) (λ j. f (j * n + c))
  unfolding accumulated_column
  column-at h = ap₂ (λ (q r : ℕ). sum (suc q) (λ j. f (j * n + r))) (digits_div k h) (digits_mod k h)

module _ (n : ℕ) (f : ℕ → ℤ) where
  row_zero : (k : ℕ) → 0 < n → accumulated_row n f (k * n + 0) ≡ f (k * n + 0)
  row_zero k h = row_at n f k 0 h ∙ sum_one (λ j. f (k * n + j))

  row_suc : (k c : ℕ) → suc c < n → accumulated_row n f (k * n + suc c) ≡ accumulated_row n f (k * n + c) +ℤ f (k * n + suc c)
  row_suc k c h =
      row_at n f k (suc c) h ∙ sum_suc (suc c) (λ j. f (k * n + j))
      ∙ ap (λ (z : ℤ). z +ℤ f (k * n + suc c)) (sym (row_at n f k c (omega arith)))

  column_zero : (c : ℕ) → c < n → accumulated_column n f (0 * n + c) ≡ f (0 * n + c)
  column_zero c h = column-at n f 0 c h ∙ sum_one (λ j. f (j * n + c))

  column_suc : (k c : ℕ) → c < n → accumulated_column n f (suc k * n + c) ≡ accumulated_column n f (k * n + c) +ℤ f (suc k * n + c)
  column_suc k c h =
      column-at n f (suc k) c h ∙ sum_suc (suc k) (λ j. f (j * n + c))
      ∙ ap (λ (z : ℤ). z +ℤ f (suc k * n + c)) (sym (column-at n f k c h))

  -- ---- by the index
  along : (i k c : ℕ) → k * n + suc c ≡ i → suc c < n → accumulated_row n f i ≡ accumulated_row n f (i - 1) +ℤ f i
  along i k c e h =
      subst (λ (j : ℕ). accumulated_row n f j ≡ accumulated_row n f (j - 1) +ℤ f j) e
      (row_suc k c h ∙ ap (λ (j : ℕ). accumulated_row n f j +ℤ f (k * n + suc c)) (let q : k * n + c ≡ k * n + suc c - 1 = omega arith in q))

  down : (i k c : ℕ) → suc k * n + c ≡ i → c < n → accumulated_column n f i ≡ accumulated_column n f (i - n) +ℤ f i
  down i k c e h =
      subst (λ (j : ℕ). accumulated_column n f j ≡ accumulated_column n f (j - n) +ℤ f j) e
      (column_suc k c h ∙ ap (λ (j : ℕ). accumulated_column n f j +ℤ f (suc k * n + c)) (let q : k * n + c ≡ suc k * n + c - n = omega (arith, suc-mul k n) in q))

  row_first : (i : ℕ) → 0 < n → i % n ≡ 0 → accumulated_row n f i ≡ f i
  row_first i h e =
      subst (λ (j : ℕ). accumulated_row n f j ≡ f j) (ap (λ (r : ℕ). i / n * n + r) (sym e) ∙ div-add-mod' i n) (row_zero (i / n) h)

  column_first : (i : ℕ) → i < n → accumulated_column n f i ≡ f i
  column_first i h = subst (λ (j : ℕ). accumulated_column n f j ≡ f j) (let e : 0 * n + i ≡ i = omega arith in e) (column_zero i h)

  -- the row of an index past the first row
  row-past : (i : ℕ) → 0 < n → n ≤ i → (k : ℕ) → i / n ≡ k → suc (k - 1) * n + i % n ≡ i
  row-past i h l zero e = absurd (let x : ⊥ = omega (arith, mod-lt i h, ap (λ (q : ℕ). q * n + i % n) (sym e) ∙ div-add-mod' i n) in x)
  row-past i h l (suc k) e = ap (λ (q : ℕ). q * n + i % n) (let s : suc (suc k - 1) ≡ i / n = omega (arith, e) in s) ∙ div-add-mod' i n

  pub accumulated_first : (a : Accumulate) (i : ℕ) → 0 < n → None ≡ step_back a n i → accumulated a n f i ≡ f i
  accumulated_first Off i h e = refl
  accumulated_first AlongRows i h e =
      elim (ℕ_discrete (i % n) 0) [
        | yes q ↦ row_first i h q
        | no q ↦ absurd (clash (e ∙ ap (λ b. cond b None (Some 1)) (ne_eqb (i % n) 0 q)))
      ]
  accumulated_first DownColumns i h e =
      elim (dec_lt i n) [
        | yes q ↦ column_first i q
        | no q ↦ absurd (clash (e ∙ ap (λ b. cond b None (Some n)) (le-ltb i n (omega arith))))
      ]

  -- how the sum at i follows from one before it
  pub record Follows (a : Accumulate) (i back : ℕ) : Type 0 where
    pub before : back ≤ i
    pub away : 0 < back
    pub is : accumulated a n f i ≡ f i +ℤ accumulated a n f (i - back)

  pub accumulated_later : (a : Accumulate) (i back : ℕ) → 0 < n → Some back ≡ step_back a n i → Follows a i back
  unfolding distance
  accumulated_later Off i back h e = absurd (clash (sym e))
  accumulated_later AlongRows i back h e =
      elim (ℕ_discrete (i % n) 0) [
        | yes q ↦ absurd (clash (sym (e ∙ ap (λ (r : ℕ). cond (eqb r 0) None (Some 1)) q)))
        | no q ↦ let one : back ≡ 1 = ap (distance 0) (e ∙ ap (λ b. cond b None (Some 1)) (ne_eqb (i % n) 0 q)) in
            let place : i / n * n + suc (i % n - 1) ≡ i = ap (λ (r : ℕ). i / n * n + r) (omega arith) ∙ div-add-mod' i n in
            subst (λ (s : ℕ). Follows AlongRows i s) (sym one)
            (record { before = omega (arith, place); away = omega arith; is = along i (i / n) (i % n - 1) place (omega (arith, mod-lt i h)) ∙ +ℤ_comm (accumulated_row n f (i - 1)) (f i) })
      ]
  accumulated_later DownColumns i back h e =
      elim (dec_lt i n) [
        | yes q ↦ absurd (clash (sym (e ∙ ap (λ b. cond b None (Some n)) (lt-ltb i n q))))
        | no q ↦ let all : back ≡ n = ap (distance 0) (e ∙ ap (λ b. cond b None (Some n)) (le-ltb i n (omega arith))) in
            subst (λ (s : ℕ). Follows DownColumns i s) (sym all)
            (record { before = omega arith; away = h; is = down i (i / n - 1) (i % n) (row-past i h (omega arith) (i / n) refl) (mod-lt i h) ∙ +ℤ_comm (accumulated_column n f (i - n)) (f i) })
      ]

-- ---- size
pub column_mask : (n i : ℕ) → T (is_size n) → bit_and i (n - 1) ≡ i % n
column_mask n i t = size_cases (λ m. bit_and i (m - 1) ≡ i % m) (and_mask i 2) (and_mask i 3) (and_mask i 4) (and_mask i 5) n t

few_within : {k : ℕ} {z : ℤ} → k ≤ 32 → Within (k * 4194304) z → Within 134217728 z
few_within h w = within_le (mul-le-mul_right 4194304 h) w

pub accumulated_within : (a : Accumulate) (n : ℕ) (f : ℕ → ℤ) (i : ℕ) → n ≤ 32 → i < n * n → ((j : ℕ) → j < n * n → Within 4194304 (f j)) → Within 134217728 (accumulated a n f i)
unfolding accumulated_row accumulated_column
accumulated_within Off n f i m h w = within_le (omega arith) (w i h)
accumulated_within AlongRows n f i m h w =
    let l : i / n < n = cell_row n i h in
    let r : i % n < n = mod-lt i (omega arith) in
    few_within (omega arith) (sum_bound (suc (i % n)) (λ c. f (i / n * n + c)) (λ c d. w (i / n * n + c) (digits_lt l (omega arith))))
accumulated_within DownColumns n f i m h w =
    let l : i / n < n = cell_row n i h in
    let r : i % n < n = mod-lt i (omega arith) in
    few_within (omega arith) (sum_bound (suc (i / n)) (λ k. f (k * n + i % n)) (λ k d. w (k * n + i % n) (digits_lt (omega arith) r)))

-- ---- one after the other
pub stored_kept : {f : ℕ → ℤ} {xs : List ℤ} {k : ℕ} {ys : List ℤ} → Stored f xs k ys → k < length xs → at ys k ≡ f k → Stored f xs (k + 1) ys
stored_kept {f} {xs} {k} {ys} s h e = subst (λ (l : List ℤ). Stored f xs (k + 1) l) (set-get_or ys k (pos 0)) (stored_more s h e)

pub stored_firsts : (f : ℕ → ℤ) (xs : List ℤ) (k : ℕ) → k ≤ length xs → ((i : ℕ) → i < k → f i ≡ at xs i) → Stored f xs k xs
stored_firsts f xs k l h = record { is = sym (overwrite_cong k f (at xs) xs h ∙ overwrite_self k xs l); inside = l }

pub stored_done : {f : ℕ → ℤ} {xs : List ℤ} {k : ℕ} {ys : List ℤ} → Stored f xs k ys → (i : ℕ) → i < k → at ys i ≡ f i
stored_done {f} {xs} {k} s i h = ap (λ (l : List ℤ). at l i) s.is ∙ overwrite-get_or k f xs i (pos 0) h

pub stored_rest : {f : ℕ → ℤ} {xs : List ℤ} {k : ℕ} {ys : List ℤ} → Stored f xs k ys → (i : ℕ) → k ≤ i → at ys i ≡ at xs i
stored_rest {f} {xs} {k} s i h = ap (λ (l : List ℤ). at l i) s.is ∙ overwrite-get_or-past k f xs i (pos 0) h

-- ---- a sample that takes up the sum at the one before it
module _ (n : ℕ) (f : ℕ → ℤ) (size : T (is_size n)) (i : ℕ) where
  positive : 0 < n
  positive = omega (arith, (size_bound n size).0)

  pub along_first : bit_and i (n - 1) ≡ 0 → accumulated_row n f i ≡ f i
  along_first e = row_first n f i positive (sym (column_mask n i size) ∙ e)

  pub along_later : (bit_and i (n - 1) ≡ 0 → ⊥) → Follows n f AlongRows i 1
  along_later h =
      accumulated_later n f AlongRows i 1 positive (sym (ap (λ b. cond b None (Some 1)) (ne_eqb (i % n) 0 (λ e. h (column_mask n i size ∙ e)))))

  pub down_first : i < n → accumulated_column n f i ≡ f i
  down_first h = column_first n f i h

  pub down_later : n ≤ i → Follows n f DownColumns i n
  down_later h = accumulated_later n f DownColumns i n positive (sym (ap (λ b. cond b None (Some n)) (le-ltb i n h)))

module _ (a : Accumulate) (n : ℕ) (xs : List ℤ) (size : T (is_size n)) (small : Summable (n * n) xs) (i : ℕ) (inside : i < n * n) where
  total_fits : SFits w32 (accumulated a n (at xs) i)
  total_fits = within_fits tt (accumulated_within a n (at xs) i (size_bound n size).1 inside small.small)

  module _ {ys : List ℤ} (s : Stored (accumulated a n (at xs)) xs i ys) {back : ℕ} (f : Follows n (at xs) a i back) (p : SFits w32 (at ys i)) (q : SFits w32 (at ys (i - back))) where
    taken_is : to_z w32 (of_z w32 (at ys i)) +ℤ to_z w32 (of_z w32 (at ys (i - back))) ≡ accumulated a n (at xs) i
    taken_is =
        ap₂ ◌+ℤ◌ (round_trip p ∙ stored_rest s i (omega arith)) (round_trip q ∙ stored_done s (i - back) (omega (arith, f.before, f.away)))
        ∙ sym f.is

    pub taken_fits : SFits w32 (to_z w32 (of_z w32 (at ys i)) +ℤ to_z w32 (of_z w32 (at ys (i - back))))
    taken_fits = subst (λ (z : ℤ). SFits w32 z) (sym taken_is) total_fits

    pub taken_stored : i < length xs → Stored (accumulated a n (at xs)) xs (i + 1) (set ys i (to_z w32 (of_z w32 (to_z w32 (of_z w32 (at ys i)) +ℤ to_z w32 (of_z w32 (at ys (i - back)))))))
    taken_stored h = stored_more s h (ap (λ (z : ℤ). to_z w32 (of_z w32 z)) taken_is ∙ round_trip total_fits)

-- ---- whole blocks
pub accumulated_cong : (a : Accumulate) (n : ℕ) (f g : ℕ → ℤ) → ((j : ℕ) → j < n * n → f j ≡ g j) → (i : ℕ) → i < n * n → accumulated a n f i ≡ accumulated a n g i
unfolding accumulated_row accumulated_column
accumulated_cong Off n f g e i h = e i h
accumulated_cong AlongRows n f g e i h =
    let l : i / n < n = cell_row n i h in
    let r : i % n < n = mod-lt i (omega arith) in
    sum_cong (suc (i % n)) (λ c. f (i / n * n + c)) (λ c. g (i / n * n + c)) (λ c d. e (i / n * n + c) (digits_lt l (omega arith)))
accumulated_cong DownColumns n f g e i h =
    let l : i / n < n = cell_row n i h in
    let r : i % n < n = mod-lt i (omega arith) in
    sum_cong (suc (i / n)) (λ k. f (k * n + i % n)) (λ k. g (k * n + i % n)) (λ k d. e (k * n + i % n) (digits_lt (omega arith) r))
