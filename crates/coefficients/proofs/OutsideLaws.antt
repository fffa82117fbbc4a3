-- The search for a coefficient outside the range: all at once, and row by row.
--   range_fits            a number within the widest range fits 32 bits
--   low_end, high_end     the ends of the range, as they are worked out
--   Reaches z m           z lies in every range whose end 2^R is above m
--   reaches_mag           a number reaches its size
--   reach_inside          a number above the least value of the range by less than its width, in 32 bits, lies in it
--   AllReach, all_reach_zero, all_reach_suc   bits gathered from the first coefficients: the invariant of a loop that gathers them
--   none_flat             a block that has none in any column
--   first_outside-inside   what a search that found none says of each place
--   outside_at-row       the test at row k and column c
--   none-part, none_row   a part of a row without one, and a whole row
--   none_passes, flat_passes  a block that passes, by its rows and all at once
--   row_passes, row_refuses   what the test of row k says of the block
use mathlib.Core.Path.{◌≡◌, refl, sym, ap, ◌∙◌}
use mathlib.Core.Bool.{Bool, true, false, ◌&&◌}
use mathlib.Core.List.{List}
use Prim.Native.Nat.{ℕ, ◌+◌, ◌*◌, ◌-◌, ◌%◌, ◌^◌, ◌≤◌, ◌<◌}
use native.Mathlib.Nat.{not-suc-le-zero, pow-succ', suc-mul, lt_of_lt_of_le}
use native.Mathlib.Numerals.{add-one}
use native.Mathlib.Decide.{ℕ_discrete, dec_lt}
use native.Mathlib.Omega.{arith}
use borrow.Author.Tests.{lt-ltb, le-ltb, ltb-true, ltb-false}
use lib.Arith.{digits_div, digits_mod, digits_lt}
use lib.Dec.{ltb}
use lib.Bits.{bit_or, and_le_l, and_le_r, or_add_and}
use lib.IntN.{ℤ, pos, negsuc, neg_ℤ, ◌-ℤ◌}
use lib.ListN.{get_or, length, take}
use lib.Seq.{length-take-le, get_or-take}
use lib.Pow.{pow_pos, pow_mono}
use lib.Signed.{lt_z, mag}
use mir.Syntax.{w32}
use mir.Val.{SFits, to_z, of_z}
use Rattle.std.specs.Prelude.{Ok, Err}
use Rattle.integers.specs.Search.{first_where}
use Rattle.integers.specs.Within.{Within}
use Rattle.integers.proofs.BoundLaws.{within_fits, within_le}
use Rattle.integers.proofs.LinearLaws.{parts_add, parts_neg, le_out}
use Rattle.integers.proofs.MachineLaws.{lt_z_of_le, shl_one}
use Rattle.integers.proofs.SearchLaws.{None, none_le, first_where-none, first_where_found, first_where_first}
use Rattle.h265.specs.Range.{coeff_min, coeff_max, outside_range}
use Rattle.h265.proofs.RangeLaws.{coeff_min_eq, coeff_max_eq}
use Rattle.refusal.specs.declared.Refusal.{Refusal}
use Rattle.coefficients.specs.Outside.{outside_at, first_outside, outside_refusal, refusal_at, RowChecked, InsideChecked}

pub low_end : (r : ℕ) → r ≤ 22 → pos 0 -ℤ to_z w32 ((1 * 2 ^ r) % 4294967296) ≡ coeff_min r
low_end r h = coeff_min_eq _ r (shl_one w32 r (omega (arith, h)))

pub high_end : (r : ℕ) → r ≤ 22 → to_z w32 ((1 * 2 ^ r) % 4294967296) -ℤ pos 1 ≡ coeff_max r
high_end r h = coeff_max_eq _ r (shl_one w32 r (omega (arith, h)))

pub range_fits : (r : ℕ) {z : ℤ} → r ≤ 22 → Within (2 ^ r) z → SFits w32 z
range_fits r h w = within_fits {b = 4194304} tt (within_le (pow_mono h) w)

-- ---- all at once
twice : (r : ℕ) → 2 ^ (r + 1) ≡ 2 * 2 ^ r
twice r = ap (λ (i : ℕ). 2 ^ i) (add-one r) ∙ pow-succ' 2 r

pub record Reaches (z : ℤ) (m : ℕ) : Type 0 where
  pub inside : (r : ℕ) → m < 2 ^ r → outside_range r z ≡ false

between : (r : ℕ) (z : ℤ) → lt_z z (coeff_min r) ≡ false → lt_z (coeff_max r) z ≡ false → outside_range r z ≡ false
unfolding outside_range
between r z e f = rw (e, f)

pub reaches_mag : (z : ℤ) → Reaches z (mag z)
unfolding coeff_min coeff_max
reaches_mag (pos n) =
    record {
      inside = λ r h.
          between r (pos n) (lt_z_of_le (le_out (neg_ℤ (pos (2 ^ r))) (pos n) (omega (arith, parts_neg (pos (2 ^ r))))))
          (lt_z_of_le (le_out (pos n) (pos (2 ^ r) -ℤ pos 1) (omega (arith, parts_add (pos (2 ^ r)) (neg_ℤ (pos 1))))));
    }
reaches_mag (negsuc n) =
    record {
      inside = λ r h.
          between r (negsuc n) (lt_z_of_le (le_out (neg_ℤ (pos (2 ^ r))) (negsuc n) (omega (arith, parts_neg (pos (2 ^ r))))))
          (lt_z_of_le (le_out (negsuc n) (pos (2 ^ r) -ℤ pos 1) (omega (arith, parts_add (pos (2 ^ r)) (neg_ℤ (pos 1)), pow_pos r))));
    }

-- above the least value of the range by less than its width
pub reach_inside : (r : ℕ) {x : ℤ} → r ≤ 22 → SFits w32 x → (of_z w32 x + 2 ^ r) % 4294967296 < 2 ^ (r + 1) → outside_range r x ≡ false
reach_inside r {x = pos n} h f l = (reaches_mag (pos n)).inside r (omega (arith, f.sfits, l, twice r, pow_mono {j = 22} h))
reach_inside r {x = negsuc n} h f l = (reaches_mag (negsuc n)).inside r (omega (arith, f.sfits, l, twice r, pow_mono {j = 22} h))

pub record AllReach (r : ℕ) (xs : List ℤ) (k bits : ℕ) : Type 0 where
  pub at : (i : ℕ) → i < k → bits < 2 ^ (r + 1) → outside_range r (get_or xs i (pos 0)) ≡ false

pub all_reach_zero : {r : ℕ} {xs : List ℤ} {bits : ℕ} → AllReach r xs 0 bits
all_reach_zero = record { at = λ i h l. absurd (not-suc-le-zero h) }

pub all_reach_suc : {r : ℕ} {xs : List ℤ} {k : ℕ} (bits b : ℕ) → AllReach r xs k bits → (b < 2 ^ (r + 1) → outside_range r (get_or xs k (pos 0)) ≡ false) → AllReach r xs (k + 1) (bit_or bits b)
all_reach_suc {k = k} bits b f g =
    record {
      at = λ i h l.
          elim (ℕ_discrete i k) [
            | yes q ↦ rw q (g (omega (arith, l, or_add_and bits b, and_le_l bits b)))
            | no q ↦ f.at i (omega arith) (omega (arith, l, or_add_and bits b, and_le_r bits b))
          ];
    }

-- ---- row by row

module _ (r n nx : ℕ) (xs : List ℤ) where
  -- a column that is read
  pub outside_at-row : (k c : ℕ) → c < nx → nx ≤ n → outside_at r n nx xs (k * n + c) ≡ outside_range r (get_or xs (k * n + c) (pos 0))
  unfolding outside_at
  outside_at-row k c h l = rw (digits_mod k {m = n} {r = c} (omega arith), lt-ltb c nx h)

  -- one that is not
  outside_at-past : (i : ℕ) → nx ≤ i % n → outside_at r n nx xs i ≡ false
  unfolding outside_at
  outside_at-past i h = rw (le-ltb (i % n) nx h)

  -- where every column is inside, so are those that are read
  pub none_flat : (k : ℕ) → ((i : ℕ) → i < k → outside_range r (get_or xs i (pos 0)) ≡ false) → None (outside_at r n nx xs) k
  unfolding outside_at
  none_flat k h = record { at = λ i l. rw (h i l) (and_false (ltb (i % n) nx)) }
    where
      and_false : (b : Bool) → b && false ≡ false
      and_false true = refl
      and_false false = refl

  -- a row up to a column
  pub none-part : (k d : ℕ) → d ≤ nx → nx ≤ n → None (outside_at r n nx xs) (k * n)
      → None (λ c. outside_range r (get_or xs (k * n + c) (pos 0))) d → None (outside_at r n nx xs) (k * n + d)
  none-part k d m l f g =
      record {
        at = λ i h.
            elim (dec_lt i (k * n)) [
              | yes q ↦ f.at i q
              | no q ↦ let e : k * n + (i - k * n) ≡ i = omega arith in
                  rw (← e) (outside_at-row k (i - k * n) (omega arith) l ∙ g.at (i - k * n) (omega arith))
            ];
      }

  pub none_row : (k : ℕ) → 0 < n → nx ≤ n → None (outside_at r n nx xs) (k * n)
      → None (λ c. outside_range r (get_or xs (k * n + c) (pos 0))) nx → None (outside_at r n nx xs) ((k + 1) * n)
  none_row k z l f g = record { at = at }
    where
      in_row : (c : ℕ) → c < n → outside_at r n nx xs (k * n + c) ≡ false
      in_row c h =
          elim (dec_lt c nx) [
            | yes q ↦ outside_at-row k c q l ∙ g.at c q
            | no q ↦ outside_at-past (k * n + c) (rw (digits_mod k {m = n} {r = c} h) (omega arith))
          ]

      at : (i : ℕ) → i < (k + 1) * n → outside_at r n nx xs i ≡ false
      at i h =
          elim (dec_lt i (k * n)) [
            | yes q ↦ f.at i q
            | no q ↦ let e : k * n + (i - k * n) ≡ i = omega arith in
                let s : (k + 1) * n ≡ k * n + n = ap (λ (j : ℕ). j * n) (add-one k) ∙ suc-mul k n in
                rw (← e) (in_row (i - k * n) (omega arith))
          ]

  pub none_passes : None (outside_at r n nx xs) (n * n) → InsideChecked r n nx xs (Ok tt)
  unfolding first_outside
  none_passes f = rw (first_where-none (n * n) (omega arith) f) (le-ltb (n * n) (n * n) (omega arith))

  pub flat_passes : n * n ≤ length xs
      → ((i : ℕ) → i < length (take (n * n) xs) → outside_range r (get_or (take (n * n) xs) i (pos 0)) ≡ false) → InsideChecked r n nx xs (Ok tt)
  flat_passes h f = none_passes (none_flat (n * n) inside)
    where
      inside : (i : ℕ) → i < n * n → outside_range r (get_or xs i (pos 0)) ≡ false
      inside i l = rw (get_or-take (n * n) xs i (pos 0) l) at (f i (rw (length-take-le (n * n) xs h) l))

  -- row k by itself: ys are its columns that are read
  module _ (k : ℕ) (ys : List ℤ) (long : length ys ≡ nx) (same : (c : ℕ) → c < nx → get_or ys c (pos 0) ≡ get_or xs (k * n + c) (pos 0)) where
    abbrev test : ℕ → Bool
    test c = outside_range r (get_or ys c (pos 0))

    read : (d : ℕ) → d ≤ nx → None test d → None (λ c. outside_range r (get_or xs (k * n + c) (pos 0))) d
    read d l f = record { at = λ c h. ap (outside_range r) (sym (same c (omega arith))) ∙ f.at c h }

    pub row_passes : 0 < n → nx ≤ n → RowChecked r k ys (Ok tt) → None (outside_at r n nx xs) (k * n) → None (outside_at r n nx xs) ((k + 1) * n)
    row_passes z l e f =
        none_row k z l f (read nx (omega arith) (none_le (omega (arith, long, ltb-false (first_where (length ys) test) (length ys) e)) (first_where_first (length ys) test).before))

    pub row_refuses : (e : Refusal) → nx ≤ n → k < n → RowChecked r k ys (Err e) → None (outside_at r n nx xs) (k * n) → InsideChecked r n nx xs (Err e)
    unfolding first_outside refusal_at
    row_refuses e l z t f =
        let c : ℕ = first_where (length ys) test in
        let h = first_where_first (length ys) test in
        let in_row : c < length ys = ltb-true c (length ys) t.0 in
        let read_too : c < nx = omega (arith, long, in_row) in
        let in_block : k * n + c < n * n = digits_lt {q = k} {m = n} {r = c} {c = n} z (omega (arith, read_too)) in
        let outside : outside_at r n nx xs (k * n + c) ≡ true = outside_at-row k c read_too l ∙ ap (outside_range r) (sym (same c read_too)) ∙ h.holds in_row in
        let place : first_where (n * n) (outside_at r n nx xs) ≡ k * n + c =
        first_where_found (n * n) (k * n + c) in_block (none-part k c (omega (arith, read_too)) l f (read c (omega (arith, read_too)) h.before)) outside in
        rw (place, digits_div k {m = n} {r = c} (omega (arith, read_too)), digits_mod k {m = n} {r = c} (omega (arith, read_too)))
        (lt-ltb (k * n + c) (n * n) in_block, t.1 ∙ ap (λ (x : ℤ). outside_refusal r x k c) (same c read_too))

-- where the search passed the block, every coefficient that is read lies in the range
pub first_outside-inside : (r n nx : ℕ) (xs : List ℤ) → nx ≤ n → n * n ≤ first_outside r n nx xs
    → (k c : ℕ) → k < n → c < nx → outside_range r (get_or xs (k * n + c) (pos 0)) ≡ false
unfolding first_outside
first_outside-inside r n nx xs l h k c hk hc =
    sym (outside_at-row r n nx xs k c hc l)
    ∙ (first_where_first (n * n) (outside_at r n nx xs)).before.at (k * n + c) (lt_of_lt_of_le (digits_lt {q = k} {m = n} {r = c} {c = n} hk (omega arith)) h)
