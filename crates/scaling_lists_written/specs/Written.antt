-- Scaling list data as it is written: H.265 clause 7.3.4, as a list of bits. Change request R-12.
-- Letters: s size_id, m matrix_id, j the number of a list among the 20, l a list.
--   difference a b          a - b
--   delta_from next v        v - next modulo 256, in -128 .. 127: scaling_list_delta_coef
--   delta_bits ps next es    the entries at positions ps, each as the delta from the one before, the first from next
--   full_bits s l            a list in full: scaling_list_dc_coef_minus8 where the size has DC, and the entries in the diagonal order
--   Form                    taken d: taken over by scaling_list_pred_matrix_id_delta d, 0 for the default; full
--   default_list lent s m    the default of s and m, with DC 16
--   earlier j               how many lists of its size stand before list j
--   nearest lists j         how many lists stand between list j and the nearest earlier one of its size that is the same; earlier j for none
--   form_of lent lists j     the default, else the nearest reference, else in full
--   form_bits s l f          a list in a form, from scaling_list_pred_mode_flag on
--   list_bits lent lists j   list j in its form
--   written_up_to             the lists before list j, one behind the other
--   written_lists            all 20
--   read_list lent j l       what the reader gets: the default as lent where the list is the same as it, else the list as its size uses it
--   read_lists               of all 20
--   Whole lent              each default has 64 entries
use Rattle.std.specs.Prelude.{cond, ◌≡◌, List, [], ◌∷◌, ◌++◌, ℕ, zero, suc, ◌+◌, ◌-◌, ◌%◌, ltb, ℤ, pos, neg_ℤ, length, get_or}
use Rattle.integers.specs.Lists.{tabulate}
use Rattle.integers.specs.Search.{first_where}
use Rattle.bits_written.specs.Codes.{unsigned_bits, signed_bits}
use Rattle.scaling_lists_codes.specs.Syntax.{FactorList, Defaults, default_for, positions, size_id, matrix_id}
use Rattle.scaling_lists_written.specs.Same.{has_dc, same_list, used_list, list_at}

-- ---- a list in full
unfoldable pub difference : ℕ → ℕ → ℤ
difference a b = cond (ltb a b) (neg_ℤ (pos (b - a))) (pos (a - b))

-- 384 is 128 + 256, so that nothing falls below 0
unfoldable pub delta_from : ℕ → ℕ → ℤ
delta_from next v = difference ((v + 384 - next) % 256) 128

unfoldable pub delta_bits : List ℕ → ℕ → List ℕ → List ℕ
delta_bits [] next es = []
delta_bits (p ∷ ps) next es = signed_bits (delta_from next (get_or es p 0)) ++ delta_bits ps (get_or es p 0) es

unfoldable pub full_bits : ℕ → FactorList → List ℕ
full_bits s l =
    cond (has_dc s) (signed_bits (difference l.dc 8) ++ delta_bits (positions s) l.dc l.entries) (delta_bits (positions s) 8 l.entries)

-- ---- how a list is written
pub data Form : Type 0 where
  taken : ℕ → Form
  full : Form

abbrev pub default_list : Defaults → ℕ → ℕ → FactorList
default_list lent s m = record { entries = default_for lent s m; dc = 16 }

unfoldable pub earlier : ℕ → ℕ
earlier j = j % 6

unfoldable pub nearest : List FactorList → ℕ → ℕ
nearest lists j = first_where (earlier j) (λ d. same_list (size_id j) (list_at lists j) (list_at lists (j - 1 - d)))

unfoldable pub form_of : Defaults → List FactorList → ℕ → Form
form_of lent lists j =
    cond (same_list (size_id j) (list_at lists j) (default_list lent (size_id j) (matrix_id j))) (taken 0)
    (cond (ltb (nearest lists j) (earlier j)) (taken (nearest lists j + 1)) full)

unfoldable pub form_bits : ℕ → FactorList → Form → List ℕ
form_bits s l (taken d) = 0 ∷ unsigned_bits d
form_bits s l full = 1 ∷ full_bits s l

unfoldable pub list_bits : Defaults → List FactorList → ℕ → List ℕ
list_bits lent lists j = form_bits (size_id j) (list_at lists j) (form_of lent lists j)

-- ---- the lists
unfoldable pub written_up_to : Defaults → List FactorList → ℕ → List ℕ
written_up_to lent lists zero = []
written_up_to lent lists (suc j) = written_up_to lent lists j ++ list_bits lent lists j

unfoldable pub written_lists : Defaults → List FactorList → List ℕ
written_lists lent lists = written_up_to lent lists 20

-- ---- what is read of them
unfoldable pub read_list : Defaults → ℕ → FactorList → FactorList
read_list lent j l =
    cond (same_list (size_id j) l (default_list lent (size_id j) (matrix_id j))) (default_list lent (size_id j) (matrix_id j)) (used_list (size_id j) l)

unfoldable pub read_lists : Defaults → List FactorList → List FactorList
read_lists lent lists = tabulate 20 (λ j. read_list lent j (list_at lists j))

pub record Whole (lent : Defaults) : Type 0 where
  pub four_long : length lent.four ≡ 64
  pub intra_long : length lent.intra ≡ 64
  pub inter_long : length lent.inter ≡ 64
