-- One list, written and read again.
--   full_read        a list in full
--   taken_read       a list that is taken over
--   earlier_is       how many lists of its size stand before list j, as the reader counts them
--   number_back      the list that a reference from list j means
--   same_read        what is read of a list is what was read of an earlier one that is the same
--   list_read        list j is read as it was written
--   read_used        what is read is the list as far as its size uses it
use mathlib.Core.Path.{◌≡◌, refl, sym, ap, ap₂, ◌∙◌, subst}
use mathlib.Core.Bool.{Bool, true, false, cond}
use mathlib.Core.List.{List, [], ◌∷◌, ◌++◌}
use Prim.Native.Nat.{ℕ, ◌+◌, ◌-◌, ◌*◌, ◌/◌, ◌%◌, ◌≤◌, ◌<◌}
use native.Mathlib.Nat.{mul_comm, mul-sub, mul-div_cancel, mul-div_cancel_left}
use native.Mathlib.Omega.{arith}
use borrow.Author.Tests.{eqb-true, eqb-false, eq-eqb, ne_eqb, ltb-true, le-ltb}
use lib.Dec.{T, eqb, ltb, lit<, ltb→lt}
use lib.ListN.{length, length-append}
use Rattle.std.specs.Prelude.{Ok}
use Rattle.integers.specs.Lists.{tabulate, tabulate_from}
use Rattle.integers.proofs.ListsLaws.{tabulate-length, tabulate-get_or}
use Rattle.integers.proofs.SearchLaws.{first_where_first}
use Rattle.bits_written.specs.Codes.{unsigned_bits, signed_bits}
use Rattle.bits_written.specs.Bytes.{Begins}
use Rattle.bits_written.proofs.BytesLaws.{begins_first, begins_second, begins_there, begins_bit, begins_rest}
use Rattle.bits_written.proofs.CodesLaws.{unsigned_read}
use Rattle.diagonal.specs.Scan.{inside, diagonal, diagonals, up_right}
use Rattle.scaling_lists_codes.specs.Syntax.{number_at, FactorList, Defaults, and_then, matrix_step, size_id, matrix_id, list_number, default_for, positions, blank, coded_entries, dc_code, coded_list, reference_code, referred, taken_over, none, list_by, list_code}
use Rattle.scaling_lists.proofs.ListLaws.{each_below, below_both}
use Rattle.scaling_lists_written.specs.Same.{has_dc, used_count, entry, same_list, used_list, Proper, list_at}
use Rattle.scaling_lists_written.specs.Written.{difference, delta_bits, full_bits, default_list, earlier, nearest, form_of, form_bits, list_bits, read_list, Whole}
use Rattle.scaling_lists_written.specs.Written.Form.{taken, full}
use Rattle.scaling_lists_written.proofs.SameLaws.{same_used, used_same, used_whole, used_idem}
use Rattle.scaling_lists_written.proofs.DeltaLaws.{dc_read, Entries, placed, entries_read}

-- ---- a list in full
entries_below : (n : ℕ) (ps : List ℕ) (l : FactorList) → T (each_below n ps)
    → ((i : ℕ) → i < n → 1 ≤ entry l i) → ((i : ℕ) → i < n → entry l i ≤ 255) → Entries ps l.entries
entries_below n [] l a lo hi = tt
entries_below n (p ∷ ps) l a lo hi =
    let b = below_both (ltb p n) (each_below n ps) a in
    let h = ltb→lt p n b.0 in
    (lo p h, hi p h, entries_below n ps l b.1 lo hi)

module _ (s : ℕ) (l : FactorList) where
  positions_entries : Proper s l → Entries (positions s) l.entries
  unfolding positions used_count inside diagonal diagonals up_right
  positions_entries p = by_size (eqb s 0) p.entries_least p.entries_most
    where
      by_size : (b : Bool) → ((i : ℕ) → i < cond b 16 64 → 1 ≤ entry l i) → ((i : ℕ) → i < cond b 16 64 → entry l i ≤ 255)
          → Entries (cond b (up_right 4) (up_right 8)) l.entries
      by_size true lo hi = entries_below 16 (up_right 4) l tt lo hi
      by_size false lo hi = entries_below 64 (up_right 8) l tt lo hi

  positions_placed : placed (positions s) l.entries blank ≡ (used_list s l).entries
  unfolding positions used_count used_list tabulate tabulate_from inside diagonal diagonals up_right
  positions_placed = by_size (eqb s 0)
    where
      by_size : (b : Bool) → placed (cond b (up_right 4) (up_right 8)) l.entries blank ≡ tabulate 64 (λ i. cond (ltb i (cond b 16 64)) (entry l i) 0)
      by_size true = refl
      by_size false = refl

module _ (bytes : List ℕ) (s : ℕ) (l : FactorList) (proper : Proper s l) where
  coded_read : (dc next at : ℕ) → next ≤ 255 → Begins bytes at (delta_bits (positions s) next l.entries)
      → coded_entries bytes s dc next at ≡ Ok (record { entries = (used_list s l).entries; dc = dc }, at + length (delta_bits (positions s) next l.entries))
  unfolding coded_entries
  coded_read dc next at n g =
      rw (entries_read bytes (positions s) l.entries next at blank n (positions_entries s l proper) g, positions_placed s l)

  pub full_read : (at : ℕ) → Begins bytes at (full_bits s l) → coded_list bytes s at ≡ Ok (used_list s l, at + length (full_bits s l))
  unfolding coded_list full_bits has_dc used_list
  full_read at g = by_size (ltb 1 s) refl g
    where
      full_by : Bool → List ℕ
      full_by b = cond b (signed_bits (difference l.dc 8) ++ delta_bits (positions s) l.dc l.entries) (delta_bits (positions s) 8 l.entries)

      by_size : (b : Bool) → ltb 1 s ≡ b → Begins bytes at (full_by b)
          → cond b (and_then (dc_code bytes at) (λ dc behind. coded_entries bytes s dc dc behind)) (coded_entries bytes s 16 8 at)
          ≡ Ok (record { entries = (used_list s l).entries; dc = cond b l.dc 16 }, at + length (full_by b))
      by_size true e h =
          let a = signed_bits (difference l.dc 8) in
          let b = delta_bits (positions s) l.dc l.entries in
          rw (dc_read bytes l.dc at (proper.dc_least e) (proper.dc_most e) (begins_first a b h))
          (coded_read l.dc l.dc (at + length a) (proper.dc_most e) (begins_second a b h)
          ∙ ap (λ (k : ℕ). Ok (record { entries = (used_list s l).entries; dc = l.dc }, k)) (omega (arith, length-append a b)))
      by_size false e h = coded_read 16 8 at (omega arith) h

-- ---- a list that is taken over
step_least : (s : ℕ) → 0 < matrix_step s
unfolding matrix_step
step_least s = by_test (eqb s 3)
  where
    by_test : (b : Bool) → 0 < cond b 3 1
    by_test true = lit< tt
    by_test false = lit< tt

pub earlier_is : (j : ℕ) → matrix_id j / matrix_step (size_id j) ≡ earlier j
unfolding matrix_id earlier
earlier_is j = mul-div_cancel (j % 6) (step_least (size_id j))

-- a reference d lists back
multiple : (a d t : ℕ) → 0 < t → (a * t - d * t) / t ≡ a - d
multiple a d t h =
    ap (λ (k : ℕ). k / t) (ap₂ ◌-◌ (mul_comm a t) (mul_comm d t) ∙ sym (mul-sub t a d)) ∙ mul-div_cancel_left (a - d) h

pub number_back : (j d : ℕ) → d ≤ earlier j → list_number (size_id j) (matrix_id j - d * matrix_step (size_id j)) ≡ j - d
unfolding matrix_id earlier list_number size_id
number_back j d h = ap (λ (k : ℕ). 6 * (j / 6) + k) (multiple (j % 6) d (matrix_step (j / 6)) (step_least (j / 6))) ∙ omega arith

pub taken_read : (lent : Defaults) (bytes : List ℕ) (read : List FactorList) (j d at : ℕ) → d ≤ earlier j → Begins bytes at (unsigned_bits d)
    → taken_over lent bytes read (size_id j) (matrix_id j) at ≡ Ok (referred lent read (size_id j) (matrix_id j) d, at + length (unsigned_bits d))
unfolding taken_over number_at reference_code earlier
taken_read lent bytes read j d at h g =
    rw (unsigned_read d (omega arith) bytes at g, earlier_is j, le-ltb (earlier j) d h)

-- ---- which list is read
module _ (lent : Defaults) (long : Whole lent) (s : ℕ) where
  default_long : (m : ℕ) → length (default_for lent s m) ≡ 64
  unfolding default_for
  default_long m = by_tests (eqb s 0) (ltb m 3)
    where
      by_tests : (a b : Bool) → length (cond a lent.four (cond b lent.intra lent.inter)) ≡ 64
      by_tests true b = long.four_long
      by_tests false true = long.intra_long
      by_tests false false = long.inter_long

  default_used : (m : ℕ) → (s ≡ 0 → ⊥) → used_list s (default_list lent s m) ≡ default_list lent s m
  default_used m h = used_whole s (default_list lent s m) h (default_long m) (λ e. refl)

  -- 4×4 lists have one default
  default_four : (m n : ℕ) → s ≡ 0 → default_list lent s m ≡ default_list lent s n
  unfolding default_for
  default_four m n e = rw (eq-eqb s 0 e)

  pub same_read : (m n : ℕ) (a b : FactorList) → same_list s a b ≡ true → same_list s a (default_list lent s m) ≡ false
      → cond (same_list s b (default_list lent s n)) (default_list lent s n) (used_list s b) ≡ used_list s a
  same_read m n a b e own = by_default (same_list s b (default_list lent s n)) refl
    where
      as_default : same_list s b (default_list lent s n) ≡ true → used_list s a ≡ used_list s (default_list lent s n)
      as_default t = same_used s a b e ∙ same_used s b (default_list lent s n) t

      by_size : (z : Bool) → eqb s 0 ≡ z → same_list s b (default_list lent s n) ≡ true → default_list lent s n ≡ used_list s a
      by_size true z t =
          absurd (subst T (sym (used_same s a (default_list lent s m) (as_default t ∙ ap (used_list s) (default_four n m (eqb-true s 0 z)))) ∙ own) tt)
      by_size false z t = sym (as_default t ∙ default_used n (eqb-false s 0 z))

      by_default : (t : Bool) → same_list s b (default_list lent s n) ≡ t → cond t (default_list lent s n) (used_list s b) ≡ used_list s a
      by_default true t = by_size (eqb s 0) refl t
      by_default false t = sym (same_used s a b e)

-- ---- one list
module _ (lent : Defaults) (bytes : List ℕ) (read : List FactorList) (j at : ℕ) where
  by_taken : (d : ℕ) → d ≤ earlier j → Begins bytes at (0 ∷ unsigned_bits d)
      → list_by lent bytes read (size_id j) (matrix_id j) at ≡ Ok (referred lent read (size_id j) (matrix_id j) d, at + length (0 ∷ unsigned_bits d))
  unfolding list_by
  by_taken d h g =
      rw (begins_there g, begins_bit g, taken_read lent bytes read j d (at + 1) h (begins_rest g))
      (ap (λ (k : ℕ). Ok (referred lent read (size_id j) (matrix_id j) d, k)) (omega arith))

  by_full : (l : FactorList) → Proper (size_id j) l → Begins bytes at (1 ∷ full_bits (size_id j) l)
      → list_by lent bytes read (size_id j) (matrix_id j) at ≡ Ok (used_list (size_id j) l, at + length (1 ∷ full_bits (size_id j) l))
  unfolding list_by
  by_full l p g =
      rw (begins_there g, begins_bit g, full_read bytes (size_id j) l p (at + 1) (begins_rest g)) (ap (λ (k : ℕ). Ok (used_list (size_id j) l, k)) (omega arith))

-- the lists read before list j
abbrev pub read_before : Defaults → List FactorList → ℕ → List FactorList
read_before lent lists j = tabulate j (λ k. read_list lent k (list_at lists k))

module _ (lent : Defaults) (long : Whole lent) (lists : List FactorList) (j : ℕ) where
  referred_default : (read : List FactorList) → referred lent read (size_id j) (matrix_id j) 0 ≡ default_list lent (size_id j) (matrix_id j)
  unfolding referred
  referred_default read = refl

  referred_back : (d : ℕ) → d < earlier j → referred lent (read_before lent lists j) (size_id j) (matrix_id j) (d + 1) ≡ read_list lent (j - 1 - d) (list_at lists (j - 1 - d))
  unfolding referred earlier
  referred_back d h =
      let e : j - (d + 1) ≡ j - 1 - d = omega arith in
      rw (ne_eqb (d + 1) 0 (λ z. omega arith), number_back j (d + 1) (omega arith), e)
      (tabulate-get_or j (λ k. read_list lent k (list_at lists k)) (j - 1 - d) none (omega arith))

  size_back : (d : ℕ) → d < earlier j → size_id (j - 1 - d) ≡ size_id j
  unfolding earlier size_id
  size_back d h = omega arith

  nearest_same : nearest lists j < earlier j → same_list (size_id j) (list_at lists j) (list_at lists (j - 1 - nearest lists j)) ≡ true
  unfolding nearest
  nearest_same h = (first_where_first (earlier j) (λ d. same_list (size_id j) (list_at lists j) (list_at lists (j - 1 - d)))).holds h

  back_read : (d : ℕ) → d < earlier j → same_list (size_id j) (list_at lists j) (list_at lists (j - 1 - d)) ≡ true
      → same_list (size_id j) (list_at lists j) (default_list lent (size_id j) (matrix_id j)) ≡ false
      → read_list lent (j - 1 - d) (list_at lists (j - 1 - d)) ≡ used_list (size_id j) (list_at lists j)
  unfolding read_list
  back_read d h e own =
      rw (size_back d h) (same_read lent long (size_id j) (matrix_id j) (matrix_id (j - 1 - d)) (list_at lists j) (list_at lists (j - 1 - d)) e own)

module _ (lent : Defaults) (long : Whole lent) (lists : List FactorList) (j : ℕ) (proper : Proper (size_id j) (list_at lists j)) (bytes : List ℕ) (at : ℕ) where
  abbrev s : ℕ
  s = size_id j

  abbrev l : FactorList
  l = list_at lists j

  by_nearest : (t : Bool) → ltb (nearest lists j) (earlier j) ≡ t → same_list s l (default_list lent s (matrix_id j)) ≡ false
      → Begins bytes at (form_bits s l (cond t (taken (nearest lists j + 1)) full))
      → list_by lent bytes (read_before lent lists j) s (matrix_id j) at ≡ Ok (used_list s l, at + length (form_bits s l (cond t (taken (nearest lists j + 1)) full)))
  unfolding form_bits
  by_nearest true e own g =
      let h = ltb-true (nearest lists j) (earlier j) e in
      by_taken lent bytes (read_before lent lists j) j at (nearest lists j + 1) (omega arith) g
      ∙ ap (λ (r : FactorList). Ok (r, at + length (0 ∷ unsigned_bits (nearest lists j + 1))))
      (referred_back lent long lists j (nearest lists j) h ∙ back_read lent long lists j (nearest lists j) h (nearest_same lent long lists j h) own)
  by_nearest false e own g = by_full lent bytes (read_before lent lists j) j at l proper g

  by_default : (t : Bool) → same_list s l (default_list lent s (matrix_id j)) ≡ t
      → Begins bytes at (form_bits s l (cond t (taken 0) (cond (ltb (nearest lists j) (earlier j)) (taken (nearest lists j + 1)) full)))
      → list_by lent bytes (read_before lent lists j) s (matrix_id j) at
      ≡ Ok (cond t (default_list lent s (matrix_id j)) (used_list s l), at + length (form_bits s l (cond t (taken 0) (cond (ltb (nearest lists j) (earlier j)) (taken (nearest lists j + 1)) full))))
  unfolding form_bits
  by_default true e g =
      by_taken lent bytes (read_before lent lists j) j at 0 (omega arith) g
      ∙ ap (λ (r : FactorList). Ok (r, at + length (0 ∷ unsigned_bits 0))) (referred_default lent long lists j (read_before lent lists j))
  by_default false e g = by_nearest (ltb (nearest lists j) (earlier j)) refl e g

  pub list_read : Begins bytes at (list_bits lent lists j) → list_code lent bytes (read_before lent lists j) at ≡ Ok (read_list lent j l, at + length (list_bits lent lists j))
  unfolding list_code list_bits form_of read_list
  list_read g = rw tabulate-length (by_default (same_list s l (default_list lent s (matrix_id j))) refl g)

-- what is read is the list, as far as its size uses it
pub read_used : (lent : Defaults) (j : ℕ) (l : FactorList) → used_list (size_id j) (read_list lent j l) ≡ used_list (size_id j) l
unfolding read_list
read_used lent j l = by_default (same_list (size_id j) l (default_list lent (size_id j) (matrix_id j))) refl
  where
    by_default : (t : Bool) → same_list (size_id j) l (default_list lent (size_id j) (matrix_id j)) ≡ t
        → used_list (size_id j) (cond t (default_list lent (size_id j) (matrix_id j)) (used_list (size_id j) l)) ≡ used_list (size_id j) l
    by_default true e = sym (same_used (size_id j) l (default_list lent (size_id j) (matrix_id j)) e)
    by_default false e = used_idem (size_id j) l
