-- The 20 lists: what the reader gets, and what equal bits mean.
--   reader_gets_what_was_written, equal_bits_mean_equal_lists   the statements of specs/Statements.antt
--   written_binary                 every bit written is 0 or 1
use mathlib.Core.Path.{◌≡◌, refl, sym, ap, ap₂, ◌∙◌, subst}
use mathlib.Core.Bool.{Bool, true, false, cond}
use mathlib.Core.List.{List, [], ◌∷◌, ◌++◌}
use Prim.Native.Nat.{ℕ, zero, suc, ◌+◌, ◌-◌, ◌≤◌, ◌<◌}
use native.Mathlib.Nat.{zero-add}
use native.Mathlib.Omega.{arith}
use lib.Dec.{eqb, ltb, lit<}
use lib.ListN.{length, get_or, length-append}
use Rattle.std.specs.Prelude.{Ok, Err}
use Rattle.integers.specs.Lists.{tabulate, tabulate_from}
use Rattle.integers.proofs.ListsLaws.{tabulate-get_or, tabulate_cong, tabulate_suc}
use Rattle.integers.proofs.SearchLaws.{first_where_cong}
use Rattle.bits_written.specs.Codes.{signed_bits}
use Rattle.bits_written.specs.Bytes.{bytes_of, Binary, Begins}
use Rattle.bits_written.proofs.BytesLaws.{binary_none, binary_more, binary_append, begins_first, begins_second, begins_own}
use Rattle.bits_written.proofs.CodesLaws.{unsigned_binary}
use Rattle.diagonal.specs.Scan.{inside, diagonal, diagonals, up_right}
use Rattle.scaling_lists_codes.specs.Syntax.{Reading, FactorList, Defaults, none, size_id, matrix_id, positions, lists_from, scaling_list_data}
use Rattle.scaling_lists_written.specs.Same.{has_dc, used_count, entry, used_list, list_at, used_lists, Writable}
use Rattle.scaling_lists_written.specs.Written.{Form, difference, delta_from, delta_bits, full_bits, default_list, earlier, nearest, form_of, form_bits, list_bits, written_up_to, written_lists, read_list, read_lists, Whole}
use Rattle.scaling_lists_written.specs.Written.Form.{taken, full}
use Rattle.scaling_lists_written.specs.Statements.{ReaderGetsWhatWasWritten, EqualBitsMeanEqualLists}
use Rattle.scaling_lists_written.proofs.SameLaws.{same_cong}
use Rattle.scaling_lists_written.proofs.ListLaws.{read_before, list_read, read_used}

-- ---- the reader gets what was written
module _ (lent : Defaults) (long : Whole lent) (lists : List FactorList) (writable : Writable lists) (bytes : List ℕ) (g : Begins bytes 0 (written_lists lent lists)) where
  begins_up_to : (k j : ℕ) → j + k ≡ 20 → Begins bytes 0 (written_up_to lent lists j)
  unfolding written_lists written_up_to
  begins_up_to zero j e = let t : j ≡ 20 = omega arith in rw t g
  begins_up_to (suc k) j e = begins_first (written_up_to lent lists j) (list_bits lent lists j) (begins_up_to k (suc j) (omega arith))

  begins_at : (k j : ℕ) → j + suc k ≡ 20 → Begins bytes (length (written_up_to lent lists j)) (list_bits lent lists j)
  unfolding written_up_to
  begins_at k j e = rw zero-add at (begins_second (written_up_to lent lists j) (list_bits lent lists j) (begins_up_to k (suc j) (omega arith)))

  lists_read_lem : (k j : ℕ) → j + k ≡ 20
      → lists_from k lent bytes (read_before lent lists j) (length (written_up_to lent lists j)) ≡ Ok (read_before lent lists 20, length (written_up_to lent lists 20))
  unfolding lists_from written_up_to
  lists_read_lem zero j e = let t : j ≡ 20 = omega arith in rw t
  lists_read_lem (suc k) j e =
      rw (list_read lent long lists j (writable.proper j (omega arith)) bytes (length (written_up_to lent lists j)) (begins_at k j e))
      (ap₂ (lists_from k lent bytes) (sym (tabulate_suc j (λ k. read_list lent k (list_at lists k)))) (sym (length-append (written_up_to lent lists j) (list_bits lent lists j)))
      ∙ lists_read_lem k (suc j) (omega arith))

  all_read : scaling_list_data lent bytes ≡ Ok (read_lists lent lists, length (written_lists lent lists))
  unfolding scaling_list_data read_lists written_lists tabulate tabulate_from written_up_to
  all_read = lists_read_lem 20 0 refl

used_read : (lent : Defaults) (lists : List FactorList) → used_lists (read_lists lent lists) ≡ used_lists lists
unfolding used_lists read_lists
used_read lent lists =
    tabulate_cong 20 _ _ (λ j h.
    ap (used_list (size_id j)) (tabulate-get_or 20 (λ k. read_list lent k (list_at lists k)) j none h) ∙ read_used lent j (list_at lists j))

pub reader_gets_what_was_written : ReaderGetsWhatWasWritten
reader_gets_what_was_written lent lists long writable bytes g =
    record { read = all_read lent long lists writable bytes g; as_written = used_read lent lists }

-- ---- every bit is one
delta_binary : (ps : List ℕ) (next : ℕ) (es : List ℕ) → Binary (delta_bits ps next es)
unfolding delta_bits signed_bits
delta_binary [] next es = binary_none
delta_binary (p ∷ ps) next es = binary_append (signed_bits (delta_from next (get_or es p 0))) (unsigned_binary _) (delta_binary ps (get_or es p 0) es)

full_binary : (s : ℕ) (l : FactorList) → Binary (full_bits s l)
unfolding full_bits signed_bits
full_binary s l = by_size (has_dc s)
  where
    by_size : (t : Bool) → Binary (cond t (signed_bits (difference l.dc 8) ++ delta_bits (positions s) l.dc l.entries) (delta_bits (positions s) 8 l.entries))
    by_size true = binary_append (signed_bits (difference l.dc 8)) (unsigned_binary _) (delta_binary (positions s) l.dc l.entries)
    by_size false = delta_binary (positions s) 8 l.entries

form_binary : (s : ℕ) (l : FactorList) (f : Form) → Binary (form_bits s l f)
unfolding form_bits
form_binary s l (taken d) = binary_more (lit< tt) (unsigned_binary d)
form_binary s l full = binary_more (lit< tt) (full_binary s l)

up_to_binary : (lent : Defaults) (lists : List FactorList) (j : ℕ) → Binary (written_up_to lent lists j)
unfolding written_up_to list_bits
up_to_binary lent lists zero = binary_none
up_to_binary lent lists (suc j) =
    binary_append (written_up_to lent lists j) (up_to_binary lent lists j) (form_binary (size_id j) (list_at lists j) (form_of lent lists j))

pub written_binary : (lent : Defaults) (lists : List FactorList) → Binary (written_lists lent lists)
unfolding written_lists
written_binary lent lists = up_to_binary lent lists 20

-- ---- equal lists give equal bits
deltas_used : (s next : ℕ) (l : FactorList) → delta_bits (positions s) next l.entries ≡ delta_bits (positions s) next (used_list s l).entries
unfolding delta_bits positions used_count used_list tabulate tabulate_from inside diagonal diagonals up_right
deltas_used s next l = by_size (eqb s 0)
  where
    by_size : (t : Bool) → delta_bits (cond t (up_right 4) (up_right 8)) next l.entries
        ≡ delta_bits (cond t (up_right 4) (up_right 8)) next (tabulate 64 (λ i. cond (ltb i (cond t 16 64)) (entry l i) 0))
    by_size true = refl
    by_size false = refl

full_used : (s : ℕ) (l : FactorList) → full_bits s l ≡ full_bits s (used_list s l)
unfolding full_bits used_list
full_used s l = by_size (has_dc s) refl
  where
    by_size : (t : Bool) → has_dc s ≡ t
        → cond t (signed_bits (difference l.dc 8) ++ delta_bits (positions s) l.dc l.entries) (delta_bits (positions s) 8 l.entries)
        ≡ cond t (signed_bits (difference (cond t l.dc 16) 8) ++ delta_bits (positions s) (cond t l.dc 16) (used_list s l).entries) (delta_bits (positions s) 8 (used_list s l).entries)
    by_size true e = ap (λ (b : List ℕ). signed_bits (difference l.dc 8) ++ b) (deltas_used s l.dc l)
    by_size false e = deltas_used s 8 l

form_cong : (s : ℕ) (a b : FactorList) (f : Form) → used_list s a ≡ used_list s b → form_bits s a f ≡ form_bits s b f
unfolding form_bits
form_cong s a b (taken d) e = refl
form_cong s a b full e = ap (λ (bits : List ℕ). 1 ∷ bits) (full_used s a ∙ ap (full_bits s) e ∙ sym (full_used s b))

module _ (lent : Defaults) (a b : List FactorList) (e : used_lists a ≡ used_lists b) where
  used_at : (j : ℕ) → j < 20 → used_list (size_id j) (list_at a j) ≡ used_list (size_id j) (list_at b j)
  unfolding used_lists
  used_at j h =
      sym (tabulate-get_or 20 (λ j. used_list (size_id j) (list_at a j)) j none h)
      ∙ ap (λ (l : List FactorList). get_or l j none) e
      ∙ tabulate-get_or 20 (λ j. used_list (size_id j) (list_at b j)) j none h

  used_back : (j d : ℕ) → j < 20 → d < earlier j → used_list (size_id j) (list_at a (j - 1 - d)) ≡ used_list (size_id j) (list_at b (j - 1 - d))
  unfolding earlier size_id
  used_back j d h l =
      let s : size_id (j - 1 - d) ≡ size_id j = omega arith in
      rw s at (used_at (j - 1 - d) (omega arith))

  nearest_eq : (j : ℕ) → j < 20 → nearest a j ≡ nearest b j
  unfolding nearest
  nearest_eq j h =
      first_where_cong (earlier j) _ _ (λ d l.
      same_cong (size_id j) (list_at a j) (list_at a (j - 1 - d)) (list_at b j) (list_at b (j - 1 - d)) (used_at j h) (used_back j d h l))

  form_eq : (j : ℕ) → j < 20 → form_of lent a j ≡ form_of lent b j
  unfolding form_of
  form_eq j h =
      let d = default_list lent (size_id j) (matrix_id j) in
      ap₂ (λ (t : Bool) (n : ℕ). cond t (taken 0) (cond (ltb n (earlier j)) (taken (n + 1)) full))
      (same_cong (size_id j) (list_at a j) d (list_at b j) d (used_at j h) refl) (nearest_eq j h)

  up_to_eq : (j : ℕ) → j ≤ 20 → written_up_to lent a j ≡ written_up_to lent b j
  unfolding written_up_to list_bits
  up_to_eq zero h = refl
  up_to_eq (suc j) h =
      ap₂ ◌++◌ (up_to_eq j (omega arith))
      (form_cong (size_id j) (list_at a j) (list_at b j) (form_of lent a j) (used_at j (omega arith))
      ∙ ap (form_bits (size_id j) (list_at b j)) (form_eq j (omega arith)))

  equal_bits : written_lists lent a ≡ written_lists lent b
  unfolding written_lists
  equal_bits = up_to_eq 20 (omega arith)

-- ---- equal bits mean equal lists
abbrev value_or : {A : Type 0} → A → Reading A → A
value_or d (Ok (v, at)) = v
value_or d (Err e) = d

same_got : {A : Type 0} (a b : A) (m n : ℕ) → ◌≡◌ {A = Reading A} (Ok (a, m)) (Ok (b, n)) → a ≡ b
same_got a b m n e = ap (value_or a) e

equal_lists : (lent : Defaults) (a b : List FactorList) → Whole lent → Writable a → Writable b → written_lists lent a ≡ written_lists lent b → used_lists a ≡ used_lists b
equal_lists lent a b long f h e =
    let bytes = bytes_of (written_lists lent a) in
    let g : Begins bytes 0 (written_lists lent a) = begins_own (written_lists lent a) (written_binary lent a) in
    let r = reader_gets_what_was_written lent a long f bytes g in
    let t = reader_gets_what_was_written lent b long h bytes (subst (λ (bits : List ℕ). Begins bytes 0 bits) e g) in
    sym r.as_written ∙ ap used_lists (same_got _ _ _ _ (sym r.read ∙ t.read)) ∙ t.as_written

pub equal_bits_mean_equal_lists : EqualBitsMeanEqualLists
equal_bits_mean_equal_lists lent a b long f h = (equal_lists lent a b long f h, equal_bits lent a b)
