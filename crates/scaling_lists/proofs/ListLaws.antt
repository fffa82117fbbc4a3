-- One list: coded in full, or taken over.
--   each_below, below_both    that numbers lie below one, as a test, and its parts
--   positions_inside         the positions of a size lie among 64 entries
--   coded_got, coded_stop    entries that are read, with a DC that is known
--   coded_plain, coded_dc, coded_dc_stop   a list without and with a DC of its own
--   referred_default, referred-held   the list that a reference means
--   taken_got, taken_stop    a list that is taken over, by its reference
--   list_taken, list_coded, list_ended   a list by its flag
use mathlib.Core.Path.{◌≡◌, sym, ap, ◌∙◌}
use mathlib.Core.Bool.{Bool, true, false, cond, ◌&&◌}
use mathlib.Core.List.{List, [], ◌∷◌}
use Prim.Native.Nat.{ℕ, zero, suc, ◌+◌, ◌-◌, ◌*◌, ◌≤◌, ◌<◌}
use native.Mathlib.Nat.{not-suc-le-zero}
use native.Mathlib.Omega.{arith}
use borrow.Author.Tests.{eq-eqb, ne_eqb, lt-ltb, le-ltb}
use lib.Dec.{T, eqb, ltb, lit≤, ltb→lt}
use lib.ListN.{length, get_or}
use Rattle.std.specs.Prelude.{Ok, Err}
use Rattle.integers.specs.Lists.{tabulate}
use Rattle.integers.proofs.ListsLaws.{tabulate-length, tabulate-get_or}
use Rattle.refusal.specs.declared.Refusal.{Refusal}
use Rattle.refusal.specs.declared.Refusal.TheVariants.{BitsEnded}
use Rattle.bits.specs.Bits.{is_there, bit_at}
use Rattle.diagonal.specs.Scan.{inside, diagonal, diagonals, up_right}
use Rattle.scaling_lists_codes.specs.Syntax.{Reading, FactorList, and_then, positions, blank, entries_from, coded_entries, dc_code, coded_list, Defaults, default_for, list_number, matrix_step, none, referred, reference_code, taken_over, size_id, matrix_id, list_by, list_code}
use Rattle.scaling_lists_taken.specs.Held.{held_at, held}
use Rattle.scaling_lists.specs.Work.{Positions}

-- ---- positions
abbrev pub each_below : ℕ → List ℕ → Bool
each_below n [] = true
each_below n (p ∷ ps) = ltb p n && each_below n ps

pub below_both : (s t : Bool) → T (s && t) → T s × T t
below_both true t h = (tt, h)
below_both false t h = absurd h

below_at : (n : ℕ) (ps : List ℕ) → T (each_below n ps) → (i : ℕ) → i < length ps → get_or ps i 0 < n
below_at n [] a i h = absurd (not-suc-le-zero h)
below_at n (p ∷ ps) a zero h = ltb→lt p n (below_both (ltb p n) (each_below n ps) a).0
below_at n (p ∷ ps) a (suc i) h = below_at n ps (below_both (ltb p n) (each_below n ps) a).1 i (omega arith)

four_inside : Positions (up_right 4) 64
unfolding inside diagonal diagonals up_right
four_inside = record { few = lit≤ tt; below = below_at 64 (up_right 4) tt }

eight_inside : Positions (up_right 8) 64
unfolding inside diagonal diagonals up_right
eight_inside = record { few = lit≤ tt; below = below_at 64 (up_right 8) tt }

pub positions_inside : (s : ℕ) → Positions (positions s) 64
unfolding positions
positions_inside s = by_size (eqb s 0)
  where
    by_size : (four : Bool) → Positions (cond four (up_right 4) (up_right 8)) 64
    by_size true = four_inside
    by_size false = eight_inside

-- ---- a list that is coded in full
module _ (bytes : List ℕ) (s dc next at : ℕ) where
  pub coded_got : (es : List ℕ) (behind : ℕ) → Ok (es, behind) ≡ entries_from bytes (positions s) next at blank
      → Ok (record { entries = es; dc = dc }, behind) ≡ coded_entries bytes s dc next at
  unfolding coded_entries
  coded_got es behind e = ap (λ (r : Reading (List ℕ)). and_then r (λ es behind. Ok (record { entries = es; dc = dc }, behind))) e

  pub coded_stop : (why : Refusal) → Err why ≡ entries_from bytes (positions s) next at blank → Err why ≡ coded_entries bytes s dc next at
  unfolding coded_entries
  coded_stop why e = ap (λ (r : Reading (List ℕ)). and_then r (λ es behind. Ok (record { entries = es; dc = dc }, behind))) e

module _ (bytes : List ℕ) (s at : ℕ) where
  pub coded_plain : s ≤ 1 → coded_entries bytes s 16 8 at ≡ coded_list bytes s at
  unfolding coded_list
  coded_plain h = rw (le-ltb 1 s h)

  with_dc : 1 < s → and_then (dc_code bytes at) (λ dc behind. coded_entries bytes s dc dc behind) ≡ coded_list bytes s at
  unfolding coded_list
  with_dc h = rw (lt-ltb 1 s h)

  pub coded_dc : (dc behind : ℕ) → 1 < s → Ok (dc, behind) ≡ dc_code bytes at → coded_entries bytes s dc dc behind ≡ coded_list bytes s at
  coded_dc dc behind h e = ap (λ (r : Reading ℕ). and_then r (λ dc behind. coded_entries bytes s dc dc behind)) e ∙ with_dc h

  pub coded_dc_stop : (why : Refusal) → 1 < s → Err why ≡ dc_code bytes at → Err why ≡ coded_list bytes s at
  coded_dc_stop why h e = ap (λ (r : Reading ℕ). and_then r (λ dc behind. coded_entries bytes s dc dc behind)) e ∙ with_dc h

-- ---- a list that is taken over
module _ (lent : Defaults) (s m : ℕ) where
  pub referred_default : (read : List FactorList) (delta : ℕ) (es : List ℕ) → delta ≡ 0 → es ≡ default_for lent s m
      → record { entries = es; dc = 16 } ≡ referred lent read s m delta
  unfolding referred
  referred_default read delta es z e = rw (eq-eqb delta 0 z) (ap (λ (l : List ℕ). record { entries = l; dc = 16 }) e)

  pub referred-held : (j : ℕ) (lists dcs : List ℕ) (delta from : ℕ) (es : List ℕ) → (delta ≡ 0 → ⊥) → from ≡ list_number s (m - delta * matrix_step s) → from < j
      → es ≡ tabulate 64 (λ i. get_or lists (64 * from + i) 0)
      → record { entries = es; dc = get_or dcs from 0 } ≡ referred lent (held j lists dcs) s m delta
  unfolding referred held
  referred-held j lists dcs delta from es z e h f =
      rw (ne_eqb delta 0 z)
      (ap (λ (l : List ℕ). record { entries = l; dc = get_or dcs from 0 }) f
      ∙ sym (tabulate-get_or j (held_at lists dcs) from none h)
      ∙ ap (λ (k : ℕ). get_or (tabulate j (held_at lists dcs)) k none) e)

  module _ (bytes : List ℕ) (read : List FactorList) (at : ℕ) where
    pub taken_got : (l : FactorList) (delta behind : ℕ) → Ok (delta, behind) ≡ reference_code bytes s m at → l ≡ referred lent read s m delta
        → Ok (l, behind) ≡ taken_over lent bytes read s m at
    unfolding taken_over
    taken_got l delta behind e f =
        ap (λ (l : FactorList). Ok (l, behind)) f ∙ ap (λ (r : Reading ℕ). and_then r (λ delta behind. Ok (referred lent read s m delta, behind))) e

    pub taken_stop : (why : Refusal) → Err why ≡ reference_code bytes s m at → Err why ≡ taken_over lent bytes read s m at
    unfolding taken_over
    taken_stop why e = ap (λ (r : Reading ℕ). and_then r (λ delta behind. Ok (referred lent read s m delta, behind))) e

-- ---- a list by its flag
module _ (lent : Defaults) (bytes : List ℕ) (j : ℕ) (lists dcs : List ℕ) (at : ℕ) where
  by_number : list_by lent bytes (held j lists dcs) (size_id j) (matrix_id j) at ≡ list_code lent bytes (held j lists dcs) at
  unfolding list_code held
  by_number = rw tabulate-length

  pub list_taken : is_there bytes at ≡ true → bit_at bytes at ≡ 0 → taken_over lent bytes (held j lists dcs) (size_id j) (matrix_id j) (at + 1) ≡ list_code lent bytes (held j lists dcs) at
  unfolding list_by
  list_taken h e = sym (rw (h, eq-eqb (bit_at bytes at) 0 e)) ∙ by_number

  pub list_coded : is_there bytes at ≡ true → (bit_at bytes at ≡ 0 → ⊥) → coded_list bytes (size_id j) (at + 1) ≡ list_code lent bytes (held j lists dcs) at
  unfolding list_by
  list_coded h e = sym (rw (h, ne_eqb (bit_at bytes at) 0 e)) ∙ by_number

  pub list_ended : is_there bytes at ≡ false → Err (BitsEnded at) ≡ list_code lent bytes (held j lists dcs) at
  unfolding list_by
  list_ended h = sym (rw h) ∙ by_number
